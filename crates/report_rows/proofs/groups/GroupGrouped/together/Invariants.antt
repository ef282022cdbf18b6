use Rattle.std.proofs.Common.{◌≡◌, take}
use Rattle.std.specs.List.{sum_by}
use Rattle.report_rows.proofs.groups.GroupGrouped.together.Given as goal

-- The sizes of the groups so far.
abbrev pub invariant-loop-group : goal.invariant-loop-group
invariant-loop-group l = record {
  vm : l.vm ≡ sum_by (λ g. g.vm) (take l.group-index l.left);
  file : l.file ≡ sum_by (λ g. g.file) (take l.group-index l.left);
}
