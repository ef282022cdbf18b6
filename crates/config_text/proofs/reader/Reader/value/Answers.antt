use Rattle.std.proofs.Common.{rules, false, ◌≡◌, ap, sym, ◌∙◌, List, Result, Err}
use Rattle.std.proofs.lemmas.Result.{err_from_is_err_and}
use Rattle.config_text.specs.Tokens.{Place, ahead}
use Rattle.config_text.specs.Config.{sources_after_value}
use Rattle.config_text.specs.Grammar.{Fault, with_value}
use Rattle.config_text.specs.declared.config.ConfigKind.TheVariants.{Syntax}
use Rattle.config_text.specs.declared.config.CustomSource.{CustomSource}
use Rattle.config_text.proofs.TokenLemmas.{value_missing}
use Rattle.config_text.proofs.ReadLemmas.{colon_passed, value_fails, value_given}
use Rattle.config_text.proofs.reader.Reader.value.Goals as goal

pub returns-then-not-is_at_quote-clause-value : goal.returns-then-not-is_at_quote-clause-value
returns-then-not-is_at_quote-clause-value c field d =
    let other : c.is_at_quote.result ≡ false = search rules in
    rw c.if-is_given.false
    (colon_passed c.args.self.now c.mark.new.self c.skip_gap.new.self c.mark.result c.mark.ensures.passes (search rules) c.skip_gap.ensures.same field d
    ∙ value_missing field d c.skip_gap.new.self c.skip_gap.ensures.begins (sym c.is_at_quote.ensures ∙ other)
    ∙ ap (λ (p : Place). let r : Result (List CustomSource) Fault = Err (Syntax, p.at) in r) (sym c.self-2.view_is))

pub returns-in_err-bytes-clause-value : goal.returns-in_err-bytes-clause-value
returns-in_err-bytes-clause-value c field d =
    let p = err_from_is_err_and c.from_residual.result c.from_residual.ensures.1 in
    rw (p.1, p.2, c.if-is_given.false) (rw (colon_passed c.args.self.now c.mark.new.self c.skip_gap.new.self c.mark.result c.mark.ensures.passes (search rules) c.skip_gap.ensures.same field d)
    (value_fails c.skip_gap.new.self _ c.in_err-bytes.ensures.bad field d))

pub returns-clause-value : goal.returns-clause-value
returns-clause-value c field d =
    rw c.if-is_given.false (colon_passed c.args.self.now c.mark.new.self c.skip_gap.new.self c.mark.result c.mark.ensures.passes (search rules) c.skip_gap.ensures.same field d
    ∙ value_given c.skip_gap.new.self c.strings.new.self c.in_ok-bytes.bytes.items c.in_ok-bytes.ensures.ok field d
    ∙ ap (λ (p : Place). sources_after_value (ahead c.strings.new.self) field (with_value field d p.at c.in_ok-bytes.bytes.items)) (sym c.self-2.view_is))
