-- One more label has its new number.
use Rattle.std.proofs.Common.{◌≡◌, ◌∙◌, ℕ, List, take, take_all, arith}
use Rattle.claim_sheet.proofs.MadeLemmas.{kept-more}
use Rattle.custom_rewrites.specs.Rewriting.{rewritten}
use Rattle.file_profile.proofs.ClaimLemmas.{kept-label, kept-same}
use Rattle.file_profile.proofs.LabelLemmas.{renumbered-more}
use Rattle.file_profile.proofs.claims.rewritten_numbers.Goals as goal

pub loop-k-preserved : goal.loop-k-preserved
loop-k-preserved c =
    let before = c.loop-k.invariant in
    let f : List ℕ → List ℕ = (λ label. rewritten label c.args.rewrites.now) in
    let kept = kept-label c.loop-k.pool c.intern.new.self _ c.in_ok-number.ensures.pool in
    let number = rw (c.deref.ensures.value, c.in_ok-rewrite.ensures.ok, c.new-text.ensures.items, before.same) at c.in_ok-number.ensures.number in
    record {
      kept = kept-more _ _ _ before.kept kept;
      numbers = rw c.in_ok-push.ensures.items (renumbered-more f _ _ c.args.labels.now c.loop-k.numbers.items c.loop-k.k _ _ kept c.get.ensures number before.numbers);
      same = c.rewrite.ensures.same ∙ before.same;
    }

pub returns-in_err-rewrite-clause-kept : goal.returns-in_err-rewrite-clause-kept
returns-in_err-rewrite-clause-kept c = c.loop-k.invariant.kept

pub returns-in_err-number-clause-kept : goal.returns-in_err-number-clause-kept
returns-in_err-number-clause-kept c = kept-more _ _ _ c.loop-k.invariant.kept (kept-same _ _ c.in_err-number.ensures.err)

pub returns-in_err-push-clause-kept : goal.returns-in_err-push-clause-kept
returns-in_err-push-clause-kept c = kept-more _ _ _ c.loop-k.invariant.kept (kept-label _ _ _ c.in_ok-number.ensures.pool)

pub returns-clause-numbers : goal.returns-clause-numbers
returns-clause-numbers c =
    let all : take c.loop-k.k c.args.labels.now ≡ c.args.labels.now = take_all _ _ (omega (arith, c.loop-k-test.false, c.len-k-end.ensures)) in
    rw all at c.loop-k.invariant.numbers

pub returns-clause-kept : goal.returns-clause-kept
returns-clause-kept c = c.loop-k.invariant.kept
