-- Each side of a branch has fewer rows than the branch.
use Rattle.std.specs.Prelude.{◌≤◌, max, [], ◌∷◌, length}
use Rattle.std.proofs.Common.{arith, length-append}
use Rattle.path_rows.specs.declared.row.RollupRow.{RollupRow}
use Rattle.path_rows.specs.declared.tree.Tree.{Tree}
use Rattle.path_rows.specs.declared.tree.Tree.TheVariants.{Leaf, Fork}
use Rattle.path_rows.specs.declared.tree.Branch.TheDeep.{deep-Tree}
use Rattle.path_rows.specs.Parts.{all_of}
use Rattle.path_rows.specs.Tree.{rows_in}

pub deep_le-length : (low : Tree) (row : RollupRow) (high : Tree) → max (deep-Tree low) (max (deep-Tree high) 0) ≤ length (all_of (record { low = rows_in low; row = row; high = rows_in high }))
deep_le-length Leaf row Leaf = omega arith
deep_le-length Leaf row (Fork b) = omega arith
deep_le-length (Fork a) row Leaf = omega (arith, length-append (all_of a.value) (row ∷ []))
deep_le-length (Fork a) row (Fork b) = omega (arith, length-append (all_of a.value) (row ∷ all_of b.value))
