use Rattle.std.proofs.Common.{◌≡◌, ◌-◌, map, drop, length}
use Rattle.custom_rewrites.specs.Rewriting.{rewritten}
use Rattle.custom_rewrites.specs.Shown.{shown_finder}
use Rattle.custom_rewrites.proofs.rewriting.rewrite_by.Given as goal

abbrev pub invariant-rewrites : goal.invariant-rewrites
invariant-rewrites l = record {
  kept : l.out.items ≡ l.fn.out.items;
  same : l.ready.items ≡ l.fn.ready.items;
  text : rewritten l.label (map shown_finder l.fn.ready.items) ≡ rewritten l.label (drop l.i (map shown_finder l.ready.items));
}

abbrev pub decreases-rewrites : goal.decreases-rewrites
decreases-rewrites l = length l.ready.items - l.i
