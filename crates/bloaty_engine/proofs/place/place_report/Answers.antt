-- The only file is read, and then a location of it is explained.
use Rattle.std.proofs.Common.{Err, Ok, refl}
use Rattle.std.proofs.lemmas.Result.{err_from_is_err_and}
use Rattle.bloaty_engine.specs.Verdict.{end_of_place}
use Rattle.bloaty_engine.proofs.PlaceLemmas.{place-reported}
use Rattle.bloaty_engine.proofs.place.place_report.Goals as goal

pub returns-in_err-file : goal.returns-in_err-file
returns-in_err-file g c =
    let p = err_from_is_err_and c.from_residual.result c.from_residual.ensures.1 in
    rw (p.1, p.2) (place-reported (Err c.in_err-file.field-0.0) c.requires c.in_err-file.ensures refl)

pub returns-in-Ok : goal.returns-in-Ok
returns-in-Ok g c = place-reported (Ok c.in_ok-report_of_location-in-Ok.field-0) c.requires c.in_ok-file.ensures
    (c.in-Ok.sources, rw (c.first_name.ensures, c.deref.ensures.value) at c.in-Ok.ensures, rw c.deref-in-Ok.ensures.value at c.in_ok-report_of_location-in-Ok.ensures)

pub returns : goal.returns
returns g c =
    rw c.end_of_place.ensures (place-reported (Err (end_of_place c.in-Err.answer)) c.requires c.in_ok-file.ensures (c.in-Err.answer, rw (c.first_name.ensures, c.deref.ensures.value) at c.in-Err.ensures, refl))
