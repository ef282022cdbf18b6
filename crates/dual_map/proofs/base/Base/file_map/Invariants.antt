use Rattle.std.proofs.Common.{◌≤◌}
use Rattle.dual_map.specs.Paint.{offset_labels}
use Rattle.dual_map.proofs.WalkLemmas.{Reaches, UpTo}
use Rattle.dual_map.proofs.base.Base.file_map.Given as goal

abbrev pub invariant-loop-i : goal.invariant-loop-i
invariant-loop-i l = record {
  reaches : Reaches l.self-inside.offsets l.i l.from;
  labels : UpTo (offset_labels l.self-inside.file_len l.self-inside.loads.items l.layers) l.from l.out.items;
  within : l.from ≤ l.self-inside.file_len;
}
