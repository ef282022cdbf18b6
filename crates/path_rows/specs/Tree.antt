-- The rows of a tree in order.
use Rattle.std.specs.Prelude.{List, []}
use Rattle.path_rows.specs.declared.row.RollupRow.{RollupRow}
use Rattle.path_rows.specs.declared.tree.Tree.{Tree}
use Rattle.path_rows.specs.declared.tree.Tree.TheVariants.{Leaf, Fork}
use Rattle.path_rows.specs.Parts.{all_of}

-- The rows of a tree, the least path first.
abbrev pub rows_in : Tree → List RollupRow
rows_in Leaf = []
rows_in (Fork b) = all_of b.value
