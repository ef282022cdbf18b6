-- What the order of a report and its limit mean, whatever the sizes of a path are.
use Rattle.std.specs.Prelude.{◌≡◌, ℕ, zero, suc, ◌+◌, ◌<◌, ◌≤◌, Bool, List, [], ◌∷◌, ◌++◌, All, length, map, if◌then◌else◌}
use Rattle.std.specs.declared.cmp.Ordering.{Ordering}
use Rattle.std.specs.Cmp.Lexicographic.{slice_cmp}
use Rattle.std.specs.List.{flat_map}
use Rattle.std.specs.List.Sorted.{IsStrictlySortedBy}
use Rattle.std.specs.Ordering.{nat_cmp, ordering_then}
use Rattle.report_rows.specs.declared.row.RowKind.{RowKind}
use Rattle.report_rows.specs.declared.row.RowKind.TheVariants.{Label, Others}
use Rattle.report_rows.specs.Paths.{Path, times}

-- The order of labels in a report: the larger key comes first, and for equal keys the lesser label, byte by byte.
abbrev pub label_order : (List ℕ → ℕ) → List ℕ → List ℕ → Ordering
label_order key a b = ordering_then (nat_cmp (key b) (key a)) (slice_cmp nat_cmp a b)

-- The labels that stay within a limit, and those that are left out. Each shown label is one of them, once, and no
-- other label is. All are in the report's order, those that stay first. With a limit at most that many stay, and
-- labels are left out only if that many stay.
pub record IsCut (limit : ℕ) (shown : List ℕ → Bool) (key : List ℕ → ℕ) (stay left : List (List ℕ)) : Type 0 where
  pub each : (label : List ℕ) → times label (stay ++ left) ≡ (if shown label then 1 else 0)
  pub ordered : IsStrictlySortedBy (label_order key) (stay ++ left)
  pub most : 0 < limit → length stay ≤ limit
  pub full : 0 < length left → (0 < limit) × (length stay ≡ limit)

-- How a report shows sizes: its limit, whether a label with these sizes is shown, the sort key of sizes, their sums,
-- and the row of a level that has them.
pub record Report (Sizes Row : Type 0) : Type 0 where
  pub limit : ℕ
  pub is_shown : Sizes → Bool
  pub key : Sizes → ℕ
  pub sums : List Sizes → Sizes
  pub row : ℕ → RowKind → Sizes → Row

-- The rows of labels, each followed by the rows under it.
abbrev pub label_rows : {R : Type 0} → (List ℕ → R) → (List ℕ → List R) → List (List ℕ) → List R
label_rows row under labels = flat_map (λ label. row label ∷ under label) labels

-- The row of these sizes, which are those of the labels that are left out. There is none if there is no such label.
abbrev pub others_rows : {S R : Type 0} → Report S R → ℕ → List S → List R
others_rows r level [] = []
others_rows r level (s ∷ left) = r.row level (Others (length (s ∷ left))) (r.sums (s ∷ left)) ∷ []

-- The rows of a level, for the sizes of each label there, and the rows under them. Each label that stays has a row
-- with its sizes, and the rows under the label follow it. If labels are left out, one Others row has their count and
-- the sums of their sizes. It comes after the labels with a larger key than its own, and before the rest.
pub record AreRows {S R : Type 0} (r : Report S R) (level : ℕ) (sizes : List ℕ → S)
    (Under : List ℕ → List R → Type 0) (rows : List R) : Type 0 where
  pub above : List (List ℕ)
  pub rest : List (List ℕ)
  pub left : List (List ℕ)
  pub cut : IsCut r.limit (λ label. r.is_shown (sizes label)) (λ label. r.key (sizes label)) (above ++ rest) left
  pub higher : All (λ label. r.key (r.sums (map sizes left)) < r.key (sizes label)) above
  pub lower : All (λ label. r.key (sizes label) ≤ r.key (r.sums (map sizes left))) rest
  pub under : List ℕ → List R
  pub below : All (λ label. Under label (under label)) (above ++ rest)
  pub are : let row : List ℕ → R = λ label. r.row level (Label label) (sizes label) in
      rows ≡ label_rows row under above ++ (others_rows r level (map sizes left) ++ label_rows row under rest)

-- The rows of the given number of levels in the order of a report, with the first at this level, for the sizes of
-- each path. Under a label, the sizes of a path are those of the path that begins with the label.
abbrev pub InReportOrder : {S R : Type 0} → Report S R → ℕ → ℕ → (Path → S) → List R → Type 0
InReportOrder r zero level sizes rows = rows ≡ []
InReportOrder r (suc levels) level sizes rows =
    AreRows r level (λ label. sizes (label ∷ []))
    (λ label. InReportOrder r levels (level + 1) (λ path. sizes (label ∷ path))) rows
