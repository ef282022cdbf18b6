-- One more claim has the new number of its label.
use Rattle.std.proofs.Common.{◌≡◌, ◌<◌, ◌++◌, map, take, drop, length, get_or, sym, ap, ◌∙◌, Some, arith}
use Rattle.std.proofs.lemmas.Option.{slice_get-get_or}
use Rattle.size_core.specs.declared.claim.Claim.{Claim}
use Rattle.file_profile.specs.Numbering.{renumbered}
use Rattle.file_profile.proofs.ListLemmas.{changed-at, changed-next, same-get}
use Rattle.file_profile.proofs.claims.renumber.Goals as goal

pub loop-i-preserved : goal.loop-i-preserved
loop-i-preserved c =
    let f : Claim → Claim = renumbered c.args.numbers.now in
    let old = c.args.claims.now.items in
    let lt : c.loop-i.i < length old = omega (arith, c.loop-i-test.true, c.len-i-end.ensures, c.args.claims.now.ok) in
    let now : c.loop-i.claims.items ≡ map f (take c.loop-i.i old) ++ drop c.loop-i.i old = c.loop-i.invariant in
    let x = c.index_mut.result.now in
    let y = c.index.result.now in
    let x-is : x ≡ get_or old c.loop-i.i x = (rw now at c.index_mut.ensures.value) ∙ changed-at f old c.loop-i.i x lt in
    let y-is : y ≡ get_or old c.loop-i.i y = (rw now at c.index.ensures) ∙ changed-at f old c.loop-i.i y lt in
    let same : y ≡ x = y-is ∙ same-get old c.loop-i.i x y lt x-is in
    rw (now, same) (changed-next f old c.loop-i.i x (slice_get-get_or old c.loop-i.i x lt ∙ ap Some (sym x-is)))
