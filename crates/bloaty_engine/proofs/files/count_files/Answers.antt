-- The files so far are counted, or the run ends at one.
use Rattle.std.proofs.Common.{refl, arith}
use Rattle.std.proofs.lemmas.Result.{err_from_is_err_and}
use Rattle.bloaty_engine.proofs.BatchLemmas.{all_counted, count_end, count_next, none_counted, read_end}
use Rattle.bloaty_engine.proofs.files.count_files.Goals as goal

pub loop-k-init : goal.loop-k-init
loop-k-init g c = rw c.new-total.ensures (none_counted g.F.Files _ _ _ c.args.files.now c.args.tally.now c.depth.result c.depth.ensures c.requires.room)

pub returns-in_err-file : goal.returns-in_err-file
returns-in_err-file g c =
    let p = err_from_is_err_and c.from_residual.result c.from_residual.ensures.1 in
    rw (p.1, p.2) (read_end g.F.Files _ _ _ _ _ _ _ c.get-name.result.now _ _ _ _ c.loop-k.invariant c.get-name.ensures c.next_limit-limit.ensures c.in_err-file.field-0.0 _ (rw c.as_str.ensures at c.in_err-file.ensures) refl refl)

pub returns-in_err-count_file : goal.returns-in_err-count_file
returns-in_err-count_file g c =
    let p = err_from_is_err_and c.from_residual-in_err-count_file.result c.from_residual-in_err-count_file.ensures.1 in
    let file = rw c.as_str.ensures at c.in_ok-file.ensures in
    rw (p.1, p.2) (count_end g.F.Files _ _ _ _ _ _ _ c.get-name.result.now _ _ _ _ c.loop-k.invariant c.get-name.ensures c.next_limit-limit.ensures c.in_ok-file.file file c.in_err-count_file.field-0.0 c.count_file.new.total _
    (rw c.deref.ensures.value at c.in_err-count_file.ensures) refl)

pub loop-k-preserved : goal.loop-k-preserved
loop-k-preserved g c =
    let file = rw c.as_str.ensures at c.in_ok-file.ensures in
    count_next g.F.Files _ _ _ _ _ _ _ c.get-name.result.now _ _ _ _ c.loop-k.invariant c.get-name.ensures c.next_limit-limit.ensures c.in_ok-file.file file c.count_file.new.total _
    (rw c.deref.ensures.value at c.in_ok-count_file.ensures) (omega (arith, c.len.ensures, c.in_ok-file.file.ok))

pub returns : goal.returns
returns g c = all_counted g.F.Files _ _ _ _ _ _ _ _ _ _ (omega (arith, c.loop-k-test.false, c.len-k-end.ensures)) c.loop-k.invariant (omega (arith, c.len-2.ensures)) refl refl
