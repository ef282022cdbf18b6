use Rattle.std.proofs.Common.{◌≡◌, ap, sym, ◌∙◌, arith, List, ℕ, ◌++◌}
use Rattle.std.proofs.lemmas.Result.{err_from_is_err_and}
use Rattle.config_text.specs.Tokens.{quoted_before, ahead}
use Rattle.config_text.proofs.TokenLemmas.{string_ahead, quoted_again, value_ends}
use Rattle.config_text.proofs.ReadLemmas.{broken_first, broken_later}
use Rattle.config_text.proofs.reader.Reader.strings.Goals as goal

pub returns-in_err-value-clause-bad : goal.returns-in_err-value-clause-bad
returns-in_err-value-clause-bad c =
    let p = err_from_is_err_and c.from_residual.result c.from_residual.ensures.1 in
    rw (p.1, p.2) (broken_first c.args.self.now _ c.in_err-value.ensures.bad)

pub strings-init : goal.strings-init
strings-init c = record {
  same = string_ahead c.args.self.now c.string.new.self c.skip_gap.new.self c.in_ok-value.value.items c.in_ok-value.ensures.ok c.skip_gap.ensures.same;
  begins = c.skip_gap.ensures.begins;
  left = omega (arith, c.in_ok-value.ensures.left);
}

pub returns-in_err-more-clause-bad : goal.returns-in_err-more-clause-bad
returns-in_err-more-clause-bad c =
    let p = err_from_is_err_and c.from_residual-in_err-more.result c.from_residual-in_err-more.ensures.1 in
    rw (p.1, p.2) (broken_later c.args.self.now c.strings.self c.strings.value.items _ c.strings.invariant.same c.in_err-more.ensures.bad)

pub strings-preserved : goal.strings-preserved
strings-preserved c =
    let inv = c.strings.invariant in
    let pushed : c.extend_from_slice.new.self.items ≡ c.strings.value.items ++ c.in_ok-more.more.items = c.in_ok-extend_from_slice.ensures.items ∙ ap (λ (x : List ℕ). c.strings.value.items ++ x) c.as_slice.ensures.value in
    record {
      same = inv.same
          ∙ ap (quoted_before c.args.self.now.at c.strings.value.items)
          (string_ahead c.strings.self c.string-in-strings.new.self c.skip_gap-in-strings.new.self c.in_ok-more.more.items c.in_ok-more.ensures.ok c.skip_gap-in-strings.ensures.same)
          ∙ quoted_again c.args.self.now.at c.strings.self.at c.strings.value.items c.in_ok-more.more.items (ahead c.skip_gap-in-strings.new.self)
          ∙ ap (λ (x : List ℕ). quoted_before c.args.self.now.at x (ahead c.skip_gap-in-strings.new.self)) (sym pushed);
      begins = c.skip_gap-in-strings.ensures.begins;
      left = omega (arith, inv.left, c.in_ok-more.ensures.left, c.skip_gap-in-strings.ensures.left);
    }

pub returns-clause-ok : goal.returns-clause-ok
returns-clause-ok c =
    c.strings.invariant.same ∙ value_ends c.args.self.now.at c.strings.value.items c.strings.self c.strings.invariant.begins (sym c.is_at_quote.ensures ∙ c.strings-test.false)
