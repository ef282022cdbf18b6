-- The claim is pushed below the limit, and dropped at it.
use Rattle.std.proofs.Common.{sym, ◌∙◌, ap, arith, rules}
use Rattle.claim_sheet.specs.Known.{label_text}
use Rattle.claim_sheet.specs.Reaches.{claim_of}
use Rattle.claim_sheet.specs.Sheets.{Sheet}
use Rattle.claim_sheet.proofs.MadeLemmas.{same-first}
use Rattle.claim_sheet.proofs.SheetLemmas.{seen_past, seen_pushed, still_sheet}
use Rattle.claim_sheet.proofs.sheet.ClaimSheet.add_any.Goals as goal

pub returns-then-len-self-clause-adds : goal.returns-then-len-self-clause-adds
returns-then-len-self-clause-adds c =
    let s = c.self.inside in
    record {
      made = seen_past s.pool s.first s.claims.items s.limit s.addresses_only s.over _ c.args.self.now c.self.view_is (sym c.if-not-is_taken.ensures) (omega arith);
      kept = search rules;
    }

pub returns-clause-adds : goal.returns-clause-adds
returns-clause-adds c =
    let s = c.self.inside in
    record {
      made = seen_pushed s.pool c.push.new.pool s.first s.claims.items c.push.new.claims.items s.limit s.addresses_only s.over (λ (t : Sheet). claim_of c.args.reach (label_text t.made c.args.label)) c.args.self.now c.self.invariant.within (omega arith) c.in_ok-push.ensures.pushes c.self.view_is (sym c.if-not-is_taken.ensures);
      kept = same-first s.first s.pool c.push.new.pool c.self.invariant.within c.in_ok-push.ensures.pushes.kept ∙ ap (λ (t : Sheet). t.pool) c.self.view_is;
    }

pub invariant_of-self-2 : goal.invariant_of-self-2
invariant_of-self-2 c =
    let s = c.self.inside in
    still_sheet c.push.result s.pool c.push.new.pool s.first s.claims.items c.push.new.claims.items s.limit s.over _ c.self.invariant (omega arith) c.push.ensures.pushes c.push.ensures.same_claims c.push.ensures.same_pool
