-- The kinds of groups.
use Rattle.std.specs.Prelude.{ℕ, List}
use Rattle.report_rows.specs.declared.row.RowKind.{RowKind}
use Rattle.report_rows.specs.declared.row.RowKind.TheVariants as row_kinds
use Rattle.report_rows.specs.declared.groups.Kind.{Kind}
use Rattle.report_rows.specs.declared.groups.Kind.TheVariants.{Label, Others}

-- The kind of a group's row. The label counts only for a group of a label.
abbrev pub kind_of : List ℕ → Kind → RowKind
kind_of label Label = row_kinds.Label label
kind_of label (Others count) = row_kinds.Others count
