-- The lines of a report.
use Rattle.std.specs.Prelude.{ℕ, ◌*◌, Bool, List, [], ◌++◌, codes, if◌then◌else◌}
use Rattle.std.specs.List.{flat_map}
use Rattle.size_core.specs.declared.choices.Domain.{Domain}
use Rattle.report_rows.specs.declared.row.Row.{Row}
use Rattle.report_rows.specs.declared.row.RowTree.{RowTree}
use Rattle.report_rows.specs.Shown.{shows_vm, shows_file}
use Rattle.report_text.specs.Labels.{label_text}
use Rattle.report_text.specs.Numbers.{right, spaces, percent_text, size_text}

-- A column: a percentage and a size, each right-aligned, and two spaces.
unfoldable pub column : ℕ → List ℕ → ℕ → List ℕ → List ℕ
column part_places part amount_places amount = right part_places part ++ (codes " " ++ (right amount_places amount ++ codes "  "))

-- The texts for the shown sizes, the file size first.
abbrev pub file_first : Domain → List ℕ → List ℕ → List ℕ
file_first domain file vm = (if shows_file domain then file else []) ++ (if shows_vm domain then vm else [])

-- A column's title, right-aligned.
unfoldable pub title : ℕ → List ℕ → List ℕ
title places name = right places name ++ codes "  "

-- The titles of the shown sizes.
abbrev pub titles : ℕ → Domain → List ℕ
titles places domain = file_first domain (title places (codes "FILE SIZE")) (title places (codes "VM SIZE"))

-- The title line.
unfoldable pub title_line : ℕ → Domain → List ℕ
title_line places domain = titles places domain ++ codes "LABEL\n"

-- The line of a row: its columns, two spaces for each level above it, and its text.
unfoldable pub row_line : {X : Type 0} → (X → Row) → (X → List ℕ) → Bool → X → List ℕ
row_line as_row columns wide x = columns x ++ (spaces (2 * (as_row x).level) ++ (label_text wide (as_row x).kind ++ codes "\n"))

-- The last line: the columns of the totals.
unfoldable pub total_line : List ℕ → List ℕ
total_line total = total ++ codes "TOTAL\n"

-- The lines of a report: the title line, a line for each row, and the total.
unfoldable pub lines : {X : Type 0} → ℕ → Domain → (X → Row) → (X → List ℕ) → Bool → List X → List ℕ → List ℕ
lines places domain as_row columns wide xs total =
    (title_line places domain ++ flat_map (row_line as_row columns wide) xs) ++ total_line total

-- The column of a size: its percentage and the size.
unfoldable pub size_column : ℕ → ℕ → List ℕ
size_column size total = column 6 (percent_text size total) 8 (size_text size)

-- The columns of a file size and a VM size, in a tree with these totals.
unfoldable pub columns : Domain → RowTree → ℕ → ℕ → List ℕ
columns domain t file vm = file_first domain (size_column file t.file) (size_column vm t.vm)

-- The text report of a tree.
unfoldable pub report_text : RowTree → Domain → Bool → List ℕ
report_text t domain wide =
    lines 15 domain (λ (r : Row). r) (λ (r : Row). columns domain t r.file r.vm) wide t.rows (columns domain t t.file t.vm)
