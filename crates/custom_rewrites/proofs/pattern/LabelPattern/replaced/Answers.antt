use Rattle.std.proofs.Common.{◌∙◌, ap, sym, Some}
use Rattle.regex.specs.Patterns.{Re, find}
use Rattle.custom_rewrites.proofs.GroupLemmas.{replaced_none, replaced_some}
use Rattle.custom_rewrites.proofs.pattern.LabelPattern.replaced.Goals as goal

pub returns-in-Some : goal.returns-in-Some
returns-in-Some c =
    let found = c.in-Some.ensures.found in
    let pattern = sym (ap (λ (re : Re). find re c.args.label.now 0) c.in_ok-matcher.ensures.pattern) in
    ap Some c.in_ok-expansion_of-in-Some.ensures
    ∙ sym (replaced_some c.self.inside.regex c.args.self.now c.self.view_is c.self.invariant.0 c.self.invariant.1 c.args.label.now
    (λ k. (c.type_inv.label k).fits) c.args.replacement.now found.0 c.in-Some.captures (pattern ∙ found.1) found.2)

pub returns : goal.returns
returns c =
    let pattern = sym (ap (λ (re : Re). find re c.args.label.now 0) c.in_ok-matcher.ensures.pattern) in
    sym (replaced_none c.self.inside.regex c.args.self.now c.self.view_is c.self.invariant.0 c.self.invariant.1 c.args.label.now
    (λ k. (c.type_inv.label k).fits) c.args.replacement.now (pattern ∙ c.in-None.ensures.found))
