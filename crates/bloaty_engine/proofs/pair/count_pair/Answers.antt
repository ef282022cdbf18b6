-- The file is read and opened, then its debug file is read, and then the two are counted.
use Rattle.std.proofs.Common.{Err, Ok, arith, refl}
use Rattle.std.proofs.lemmas.Result.{err_from_is_err_and}
use Rattle.bloaty_engine.proofs.PairLemmas.{pair-profiled, pair-stopped, pair-unread}
use Rattle.bloaty_engine.proofs.pair.count_pair.Goals as goal

pub returns-in_err-file : goal.returns-in_err-file
returns-in_err-file g c =
    let p = err_from_is_err_and c.from_residual.result c.from_residual.ensures.1 in
    rw (p.1, p.2) (pair-stopped c.in_err-file.field-0.0 c.args.steps.now c.requires c.in_err-file.ensures refl)

pub returns-in_err-check_format : goal.returns-in_err-check_format
returns-in_err-check_format g c =
    let p = err_from_is_err_and c.from_residual-in_err-check_format.result c.from_residual-in_err-check_format.ensures.1 in
    rw (p.1, p.2) (pair-stopped c.in_err-check_format.field-0.0 c.args.steps.now c.requires c.in_ok-file.ensures (rw c.deref.ensures.value at c.in_err-check_format.ensures))

pub returns-in_err-other : goal.returns-in_err-other
returns-in_err-other g c =
    let p = err_from_is_err_and c.from_residual-in_err-other.result c.from_residual-in_err-other.ensures.1 in
    rw (p.1, p.2) (pair-unread c.requires c.in_ok-file.ensures (rw c.deref.ensures.value at c.in_ok-check_format.ensures) (omega (arith, c.len.ensures, c.in_ok-file.file.ok)) c.next_limit-limit.ensures
    c.args.steps.now (rw c.as_str.ensures at c.in_err-other.ensures))

pub returns-in-Ok : goal.returns-in-Ok
returns-in-Ok g c =
    let pair = rw (c.new-total.ensures, c.first_name-name.ensures, c.deref-2.ensures.value, c.deref-3.ensures.value) at c.in-Ok.ensures in
    pair-profiled c.requires c.in_ok-file.ensures (rw c.deref.ensures.value at c.in_ok-check_format.ensures) (omega (arith, c.len.ensures, c.in_ok-file.file.ok)) c.next_limit-limit.ensures
    (Ok tt) (rw c.as_str.ensures at c.in_ok-other.ensures) c.depth.ensures pair.answer pair.effect

pub returns : goal.returns
returns g c =
    let pair = rw (c.new-total.ensures, c.first_name-name.ensures, c.deref-2.ensures.value, c.deref-3.ensures.value) at c.in-Err.ensures in
    rw c.end_of_pair.ensures (pair-profiled c.requires c.in_ok-file.ensures (rw c.deref.ensures.value at c.in_ok-check_format.ensures) (omega (arith, c.len.ensures, c.in_ok-file.file.ok)) c.next_limit-limit.ensures
    (Err c.in-Err.answer) (rw c.as_str.ensures at c.in_ok-other.ensures) c.depth.ensures pair.answer pair.effect)
