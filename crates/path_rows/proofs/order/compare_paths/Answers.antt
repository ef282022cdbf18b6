use Rattle.std.proofs.Common.{◌≡◌, ◌+◌, Some, length, min, drop, slice_get, ap, sym, ◌∙◌, arith}
use Rattle.std.specs.Ordering.{nat_cmp, ordering_then}
use Rattle.path_rows.specs.Paths.{path_cmp}
use Rattle.path_rows.proofs.Paths.{compare_from, compare_ends, then_other}
use Rattle.path_rows.proofs.order.compare_paths.Goals as goal

pub returns-in_default : goal.returns-in_default
returns-in_default c =
    let a = c.args.a.now in
    let b = c.args.b.now in
    let first : slice_get a c.loop-i.i ≡ Some c.as_slice.result.now = c.get.ensures ∙ ap Some (sym c.as_slice.ensures) in
    let second : slice_get b c.loop-i.i ≡ Some c.as_slice-in-loop-i.result.now = c.get-in-loop-i.ensures ∙ ap Some (sym c.as_slice-in-loop-i.ensures) in
    let rest = path_cmp (drop (c.loop-i.i + 1) a) (drop (c.loop-i.i + 1) b) in
    sym (c.loop-i.invariant ∙ (compare_from a b c.loop-i.i c.as_slice.result.now c.as_slice-in-loop-i.result.now first second
    ∙ (ap (λ o. ordering_then o rest) (sym c.cmp.ensures) ∙ then_other c.cmp.result rest c.in_default.not-Equal)))

pub loop-i-preserved : goal.loop-i-preserved
loop-i-preserved c =
    let a = c.args.a.now in
    let b = c.args.b.now in
    let first : slice_get a c.loop-i.i ≡ Some c.as_slice.result.now = c.get.ensures ∙ ap Some (sym c.as_slice.ensures) in
    let second : slice_get b c.loop-i.i ≡ Some c.as_slice-in-loop-i.result.now = c.get-in-loop-i.ensures ∙ ap Some (sym c.as_slice-in-loop-i.ensures) in
    let equal = sym c.cmp.ensures ∙ c.in-Equal.is in
    c.loop-i.invariant ∙ (compare_from a b c.loop-i.i c.as_slice.result.now c.as_slice-in-loop-i.result.now first second
    ∙ ap (λ o. ordering_then o (path_cmp (drop (c.loop-i.i + 1) a) (drop (c.loop-i.i + 1) b))) equal)

pub returns : goal.returns
returns c =
    let end : c.loop-i.i ≡ min (length c.args.a.now) (length c.args.b.now) = omega (arith, c.len.ensures, c.len-2.ensures, c.min-count.ensures) in
    c.cmp-2.ensures ∙ (ap (λ n. nat_cmp n c.len-4.result) c.len-3.ensures ∙ (ap (nat_cmp (length c.args.a.now)) c.len-4.ensures
    ∙ sym (c.loop-i.invariant ∙ compare_ends c.args.a.now c.args.b.now c.loop-i.i end)))
