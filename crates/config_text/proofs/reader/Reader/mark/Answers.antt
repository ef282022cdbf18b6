use Rattle.std.proofs.Common.{ap, ◌∙◌, arith, refl, get_or, length, List, ℕ}
use Rattle.config_text.specs.Tokens.{is_mark}
use Rattle.config_text.proofs.TokenLemmas.{mark_ahead, none_ahead, slice_parts}
use Rattle.config_text.proofs.reader.Reader.mark.Goals as goal

pub returns-in-len1-up-clause-passes : goal.returns-in-len1-up-clause-passes
returns-in-len1-up-clause-passes c = (
  c.self.inside.at,
  rw (← c.if-first-byte.true) (mark_ahead c.args.self.now c.skip_gap.new.self c.self.inside.at _ c.self.inside.rest.now _
      c.self.view_is c.skip_gap.ensures.same c.skip_gap.ensures.begins (slice_parts c.self.inside.rest.now _ c.in-len1-up.len_at_least refl)
      (ap is_mark c.if-first-byte.true ∙ c.requires)),
)

pub returns-in_default-clause-passes : goal.returns-in_default-clause-passes
returns-in_default-clause-passes c =
    none_ahead c.args.byte c.args.self.now c.skip_gap.new.self c.self.inside.at c.self.inside.rest.now c.self.view_is c.skip_gap.ensures.same
    c.skip_gap.ensures.begins (λ x cs is. absurd (omega (arith, ap length is)))

pub returns-in_default-2-clause-passes : goal.returns-in_default-2-clause-passes
returns-in_default-2-clause-passes c =
    none_ahead c.args.byte c.args.self.now c.skip_gap.new.self c.self.inside.at c.self.inside.rest.now c.self.view_is c.skip_gap.ensures.same
    c.skip_gap.ensures.begins (λ x cs is e. c.if-first-byte.false (ap (λ (s : List ℕ). get_or s 0 0) is ∙ e))
