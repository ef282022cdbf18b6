use Rattle.std.proofs.Common.{ℕ}
use Rattle.dual_map.specs.Paint.{position_labels}
use Rattle.dual_map.proofs.WalkLemmas.{Reaches, UpTo}
use Rattle.dual_map.proofs.base.Base.vm_map.Given as goal

abbrev pub invariant-loop-i : goal.invariant-loop-i
invariant-loop-i l = (from : ℕ) × Reaches l.self-inside.positions l.i from × UpTo (position_labels l.self-inside.file_len l.self-inside.loads.items l.layers) from l.out.items
