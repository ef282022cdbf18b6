use Rattle.std.proofs.Common.{◌≡◌, ◌∙◌, ℕ, List, ◌++◌, ap, append_assoc, drop, arith}
use Rattle.std.specs.List.{flat_map}
use Rattle.std.specs.Prelude.{codes}
use Rattle.report_text.specs.Places.{beaten_line, claim_lines}
use Rattle.report_text.proofs.PlaceLemmas.{claims-end, left-more, no-claims}
use Rattle.report_text.proofs.places.push_claims.Goals as goal

line_after : (old start out rank text : List ℕ) → start ≡ old ++ rank → out ≡ start ++ text → out ≡ old ++ (rank ++ text)
line_after old start out rank text begun is = is ∙ ap (λ (x : List ℕ). x ++ text) begun ∙ append_assoc old rank text

pub returns-then-len-eq0 : goal.returns-then-len-eq0
returns-then-len-eq0 c =
    let none : claim_lines c.args.wide c.args.claims.now ≡ codes "  first none\n" = no-claims c.args.wide c.args.claims.now (omega (arith, c.len.ensures)) in
    rw none c.push.ensures

pub loop-k-preserved : goal.loop-k-preserved
loop-k-preserved c =
    left-more (beaten_line c.args.wide) c.loop-k.out.items c.push_claim-in-loop-k.new.out.items (c.push_claim.new.out.items ++ flat_map (beaten_line c.args.wide) (drop 1 c.args.claims.now)) c.args.claims.now c.loop-k.k
    c.get-in-loop-k.result.now c.get-in-loop-k.ensures (line_after c.loop-k.out.items _ _ _ _ c.in_ok-push-2.ensures c.in_ok-push_claim-2.ensures) c.loop-k.invariant

pub returns : goal.returns
returns c =
    claims-end c.args.wide c.args.out.now.items c.push_claim.new.out.items c.loop-k.out.items c.args.claims.now c.loop-k.k c.get.result.now c.get.ensures (line_after c.args.out.now.items _ _ _ _ c.in_ok-push.ensures c.in_ok-push_claim.ensures) (omega (arith, c.len-k-end.ensures)) c.loop-k.invariant
