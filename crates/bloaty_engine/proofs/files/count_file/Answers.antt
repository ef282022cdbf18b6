-- A file is counted as its definition says.
use Rattle.std.proofs.Common.{arith}
use Rattle.std.proofs.lemmas.Grind.{common_steps}
use Rattle.bloaty_engine.proofs.BatchLemmas.{adds_counted, adds_ended}
use Rattle.bloaty_engine.proofs.files.count_file.Goals as goal

pub profile_file-requires : goal.profile_file-requires
profile_file-requires g c = grind (arith, common_steps, c.requires)

pub returns-in-Ok : goal.returns-in-Ok
returns-in-Ok g c =
    let profiled = rw c.as_str-name.ensures at c.in-Ok.ensures in
    adds_counted _ _ _ _ _ _ _ _ _ c.requires.fits profiled.answer profiled.effect

pub returns-in-Err : goal.returns-in-Err
returns-in-Err g c =
    let profiled = rw c.as_str-name.ensures at c.in-Err.ensures in
    rw c.end_at.ensures (adds_ended _ _ _ _ _ _ _ _ _ c.requires.fits c.in-Err.answer profiled.answer profiled.effect)
