-- The synthetic file is counted, or it is too long.
use Rattle.std.proofs.Common.{refl, arith}
use Rattle.std.proofs.lemmas.Result.{err_from_is_err_and}
use Rattle.bloaty_engine.proofs.BatchLemmas.{made_counted, made_ended, made_short}
use Rattle.bloaty_engine.proofs.files.count_made.Goals as goal

pub returns-in_err-file : goal.returns-in_err-file
returns-in_err-file g c =
    let p = err_from_is_err_and c.from_residual.result c.from_residual.ensures.1 in
    rw (p.1, p.2) (made_short c.args.run.now.limits c.args.plan.now c.args.n c.in_err-file.field-0.0 c.args.tally.now c.args.tally.now c.in_err-file.ensures c.requires.none.1 refl)

pub returns : goal.returns
returns g c =
    let counts = rw (c.new-total.ensures, c.deref.ensures.value, c.in_ok-name.ensures) at c.in_ok-count_file.ensures in
    made_counted c.args.run.now.limits c.args.plan.now c.args.n c.in_ok-file.file c.depth.result c.count_file.new.total _ _ c.in_ok-file.ensures c.depth.ensures counts refl (omega arith)

pub returns-in_err-count_file : goal.returns-in_err-count_file
returns-in_err-count_file g c =
    let p = err_from_is_err_and c.from_residual-in_err-count_file.result c.from_residual-in_err-count_file.ensures.1 in
    let counts = rw (c.new-total.ensures, c.deref.ensures.value, c.in_ok-name.ensures) at c.in_err-count_file.ensures in
    rw (p.1, p.2) (made_ended c.args.run.now.limits c.args.plan.now c.args.n c.in_ok-file.file c.depth.result c.count_file.new.total _ _ c.in_ok-file.ensures c.depth.ensures c.in_err-count_file.field-0.0 counts c.requires.none.1)
