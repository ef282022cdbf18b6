-- Claims between two positions are those that were added, unless the sheet is over its limit.
use Rattle.std.proofs.Common.{◌≡◌, ◌≤◌, ◌∙◌, true, false, length, ap, arith, refl, sym}
use Rattle.std.proofs.lemmas.List.{length-map}
use Rattle.std.proofs.lemmas.Result.{on_ok_weaker}
use Rattle.size_model.specs.Numbered.{labelled}
use Rattle.claim_sheet.specs.Sheets.{Sheet}
use Rattle.claim_sheet.proofs.KnownLemmas.{added_again, adding_over}
use Rattle.claim_sheet.proofs.sheet.ClaimSheet.add_again.Goals as goal

pub returns-then-self : goal.returns-then-self
returns-then-self c =
    let s = c.self.inside in
    let over : c.args.self.now.over ≡ true = ap (λ (t : Sheet). t.over) (sym c.self.view_is) ∙ c.if-self.true in
    let full : c.args.self.now.limit ≤ length c.args.self.now.made =
    let inside = c.self.invariant.full c.if-self.true in
    omega (arith, inside, ap (λ (t : Sheet). t.limit) c.self.view_is, ap (λ (t : Sheet). length t.made) c.self.view_is, length-map s.claims.items (labelled s.pool)) in
    λ claims added. record { made = sym (adding_over c.args.self.now claims over full); kept = refl }

pub returns : goal.returns
returns c = λ claims added.
    let few : c.args.self.now.over ≡ false = ap (λ (t : Sheet). t.over) (sym c.self.view_is) ∙ c.if-self.false in
    record {
      made = on_ok_weaker c.repeat.result (λ made. added_again c.args.self.now c.repeat.new.self c.args.first c.args.end claims few made added) c.repeat.ensures.made;
      kept = c.repeat.ensures.kept;
    }
