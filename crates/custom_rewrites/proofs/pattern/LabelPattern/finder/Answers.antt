use Rattle.regex.specs.Bytes.{matcher_pattern}
use Rattle.custom_rewrites.proofs.PatternLemmas.{finds_as}
use Rattle.custom_rewrites.proofs.pattern.LabelPattern.finder.Goals as goal

pub invariant_of-result : goal.invariant_of-result
invariant_of-result c =
    finds_as c.self.inside.regex c.args.self.now c.self.view_is c.self.invariant.0 c.self.invariant.1 (matcher_pattern c.in_ok-matcher.matcher) c.in_ok-matcher.ensures.pattern
