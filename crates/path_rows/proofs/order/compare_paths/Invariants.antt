use Rattle.std.proofs.Common.{◌≡◌, drop}
use Rattle.path_rows.specs.Paths.{path_cmp}
use Rattle.path_rows.proofs.order.compare_paths.Given as goal

abbrev pub invariant-loop-i : goal.invariant-loop-i
invariant-loop-i l = path_cmp l.a l.b ≡ path_cmp (drop l.i l.a) (drop l.i l.b)
