-- The kinds of groups.
use Rattle.std.specs.Prelude.{ℕ, List}
use Rattle.report_rows.specs.declared.groups.Kind.{Kind}
use Rattle.report_rows.specs.declared.groups.Kind.TheVariants.{Label, Others}
use Rattle.size_growth.specs.declared.row.GrowthKind.{GrowthKind}
use Rattle.size_growth.specs.declared.row.GrowthKind.TheVariants as row_kinds

-- The kind of a group's row. The label counts only for a group of a label.
abbrev pub kind_of : List ℕ → Kind → GrowthKind
kind_of label Label = row_kinds.Label label
kind_of label (Others count) = row_kinds.Others count
