use Rattle.std.proofs.Common.{◌≡◌, ◌+◌, Ok, length, take}
use Rattle.file_profile.specs.Choices.{rewrite_lists}
use Rattle.file_profile.specs.Patterns.{AreRead, rewrites_of}
use Rattle.run_plan.specs.PatternLists.{rewrite_patterns}
use Rattle.run_plan.specs.Planning.{Plans}
use Rattle.run_plan.proofs.patterns.rewrites_of.Given as goal

abbrev pub invariant-loop-source : goal.invariant-loop-source
invariant-loop-source g l = record {
  number : l.first ≡ 1 + length (rewrites_of (take l.source-index l.custom));
  same : l.all.items ≡ rewrite_lists (take l.source-index l.custom);
  read : AreRead (rewrites_of (take l.source-index l.custom));
  plans : Plans g.P.Patterns (rewrite_patterns 1 (rewrites_of (take l.source-index l.custom))) (Ok l.first) l.initial.patterns l.patterns;
}
