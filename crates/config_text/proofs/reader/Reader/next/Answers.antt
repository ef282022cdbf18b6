use Rattle.std.proofs.Common.{◌≡◌, ap, sym, ◌∙◌, arith, refl, get_or, length, List, ℕ, ◌∷◌}
use Rattle.config_text.specs.Reads.{is_other}
use Rattle.config_text.specs.Tokens.{is_mark, Place, Placed, Word, ahead}
use Rattle.config_text.proofs.TokenLemmas.{same_ahead, mark_ahead, end_ahead, other_ahead, begins_name_first, slice_parts}
use Rattle.config_text.proofs.reader.Reader.next.Goals as goal

pub returns-in-empty-clause-shows : goal.returns-in-empty-clause-shows
returns-in-empty-clause-shows c = end_ahead c.args.self.now c.skip_gap.new.self c.self.inside.at c.self.inside.rest.now c.self.view_is c.skip_gap.ensures.same c.in-empty.len_below

pub returns-in-len1-up-clause-shows : goal.returns-in-len1-up-clause-shows
returns-in-len1-up-clause-shows c =
    mark_ahead c.args.self.now c.skip_gap.new.self c.self.inside.at _ c.self.inside.rest.now _ c.self.view_is c.skip_gap.ensures.same
    c.skip_gap.ensures.begins (slice_parts c.self.inside.rest.now _ c.in-len1-up.len_at_least refl) (sym c.is_mark.ensures ∙ c.if-is_mark.true)

pub returns-in-len1-up-2-clause-shows : goal.returns-in-len1-up-2-clause-shows
returns-in-len1-up-2-clause-shows c =
    sym (same_ahead c.args.self.now c.skip_gap.new.self c.skip_gap.ensures.same) ∙ c.word.ensures.word
    ∙ ap (λ (p : Place). let ts : List Placed = (p.at, Word c.word.result.now) ∷ ahead c.word.new.self in ts) (sym c.self.view_is)

pub returns-in_default-clause-shows : goal.returns-in_default-clause-shows
returns-in_default-clause-shows c =
    other_ahead is_other c.args.self.now c.skip_gap.new.self c.self.inside.at c.self.inside.rest.now c.self.view_is c.skip_gap.ensures.same
    c.skip_gap.ensures.begins (λ e. absurd (omega (arith, ap length e, c.in-len1-up.len_at_least)))
    (λ x cs is mark. let first : is_mark (get_or c.self.inside.rest.now 0 0) ≡ is_mark x = ap (λ (s : List ℕ). is_mark (get_or s 0 0)) is in cc)
    (λ begins n. let first = begins_name_first c.self.inside.rest.now c.in-len1-up.len_at_least in cc) (λ _ v. refl) (λ _ q. refl) refl
