-- Rows in order, and rows that are inserted into them.
use Rattle.std.specs.Prelude.{◌≡◌, ◌+◌, ◌<◌, ◌≤◌, ◌^◌, ◌-◌, ◌⊎◌, ℕ, Bool, false, if◌then◌else◌, List, [], ◌∷◌, ◌++◌, length, slice_index_or, All}
use Rattle.std.specs.List.{sum_by, AllByRecursion}
use Rattle.std.specs.List.Sorted.{IsPermutation, IsStrictlySortedBy}
use Rattle.std.specs.Ordering.{is_lt}
use Rattle.std.specs.declared.cmp.Ordering.{Ordering}
use Rattle.std.specs.declared.cmp.Ordering.TheVariants.{Less, Equal, Greater}
use Rattle.path_rows.specs.declared.row.RollupRow.{RollupRow}
use Rattle.path_rows.specs.Paths.{is_path, row_cmp}
use Rattle.path_rows.specs.Sums.{file_where, vm_where}

-- The order of rows by their paths, the greatest first.
abbrev pub falling : RollupRow → RollupRow → Ordering
falling a b = row_cmp b a

-- A row with the sizes of another one added to its own.
abbrev pub larger : RollupRow → RollupRow → RollupRow
larger q r = record { path = q.path; vm = q.vm + r.vm; file = q.file + r.file }

-- A row is inserted into rows that ascend by path. If one of them has its path, the sizes are added to that one;
-- otherwise it comes before the first row that is above it.
abbrev pub with_row_by : Ordering → RollupRow → RollupRow → List RollupRow → List RollupRow → List RollupRow
with_row_by Less q r qs rest = q ∷ rest
with_row_by Equal q r qs rest = larger q r ∷ qs
with_row_by Greater q r qs rest = r ∷ q ∷ qs

-- Rows in order with one row more. If its path is there, the sizes are added to the row of that path.
abbrev pub with_row : List RollupRow → RollupRow → List RollupRow
with_row [] r = r ∷ []
with_row (q ∷ qs) r = with_row_by (row_cmp q r) q r qs (with_row qs r)

-- Rows in order with each of these rows inserted, one after another.
abbrev pub with_rows : List RollupRow → List RollupRow → List RollupRow
with_rows rows [] = rows
with_rows rows (r ∷ rs) = with_rows (with_row rows r) rs

-- The rows with others inserted one after another, whatever their order.
pub record AreMerged (rows others merged : List RollupRow) : Type 0 where
  pub order : List RollupRow
  pub same : IsPermutation others order
  pub is : merged ≡ with_rows rows order

-- What is known of rows into which others were merged. They are exactly the rows with the others inserted. They
-- ascend by path, each path once. For each test of paths, the sizes of the rows that pass it are those of both lists
-- added up. If all paths of both lists have the same number of labels, the merged ones have this number, too. If each
-- row of both lists has a size above 0, so has each merged one.
pub record Merges (rows others merged : List RollupRow) : Type 0 where
  pub exact : AreMerged rows others merged
  pub ordered : IsStrictlySortedBy row_cmp merged
  pub file : (test : List (List ℕ) → Bool) → file_where test merged ≡ file_where test rows + file_where test others
  pub vm : (test : List (List ℕ) → Bool) → vm_where test merged ≡ vm_where test rows + vm_where test others
  pub deep : (depth : ℕ) → All (λ (r : RollupRow). length r.path ≡ depth) rows → All (λ (r : RollupRow). length r.path ≡ depth) others → All (λ (r : RollupRow). length r.path ≡ depth) merged
  pub some : All (λ (r : RollupRow). (0 < r.vm) ⊎ (0 < r.file)) rows → All (λ (r : RollupRow). (0 < r.vm) ⊎ (0 < r.file)) others → All (λ (r : RollupRow). (0 < r.vm) ⊎ (0 < r.file)) merged

-- The last row has this path.
abbrev pub joins_last : List RollupRow → List (List ℕ) → Bool
joins_last [] p = false
joins_last (q ∷ []) p = is_path q.path p
joins_last (q ∷ r ∷ qs) p = joins_last (r ∷ qs) p

-- The rows, with the sizes of another row added to the last one.
abbrev pub enlarged : List RollupRow → RollupRow → List RollupRow
enlarged [] r = []
enlarged (q ∷ []) r = larger q r ∷ []
enlarged (q ∷ s ∷ qs) r = q ∷ enlarged (s ∷ qs) r

-- The rows with one more at the end. If the last row has the same path, the sizes are added to it.
abbrev pub pushed : List RollupRow → RollupRow → List RollupRow
pushed out r = if joins_last out r.path then enlarged out r else out ++ r ∷ []

-- The last of these rows is not above row `r`. This holds if there are no rows.
abbrev pub EndsUpto : List RollupRow → RollupRow → Type 0
EndsUpto [] r = Unit {0}
EndsUpto (q ∷ []) r = is_lt (row_cmp r q) ≡ false
EndsUpto (q ∷ s ∷ qs) r = EndsUpto (s ∷ qs) r

-- The last of these rows is not above the first of the other rows, if there are any.
abbrev pub EndsUptoFirst : List RollupRow → List RollupRow → Type 0
EndsUptoFirst rows [] = Unit {0}
EndsUptoFirst rows (r ∷ rs) = EndsUpto rows r

-- No row is above the next one.
abbrev pub Climbs : List RollupRow → Type 0
Climbs [] = Unit {0}
Climbs (r ∷ []) = Unit {0}
Climbs (r ∷ s ∷ rs) = (is_lt (row_cmp s r) ≡ false) × Climbs (s ∷ rs)

-- The VM sizes of both lists add up to at most 2^63 - 1, and so do the file sizes.
pub record FitTogether (rows others : List RollupRow) : Type 0 where
  pub vm : sum_by (λ (r : RollupRow). r.vm) rows + sum_by (λ (r : RollupRow). r.vm) others ≤ 2 ^ 63 - 1
  pub file : sum_by (λ (r : RollupRow). r.file) rows + sum_by (λ (r : RollupRow). r.file) others ≤ 2 ^ 63 - 1

-- The rows are those of `low` and then those of `high`, and `grown` is `q`.
pub record Misses (q grown : RollupRow) (rows low high : List RollupRow) : Type 0 where
  pub parts : rows ≡ low ++ high
  pub kept : grown ≡ q

-- Between the rows of `low` and `high` is one with the path of `q`, and `grown` is `q` with its sizes added.
pub record Meets (q grown : RollupRow) (rows low high : List RollupRow) : Type 0 where
  pub row : RollupRow
  pub parts : rows ≡ low ++ row ∷ high
  pub equal : row_cmp q row ≡ Equal
  pub sum : grown ≡ larger q row

-- The rows are split at the path of `q`, into the rows below it and those above it. If there is a row with this path,
-- its sizes are added to those of `q`.
pub record IsSplit (q grown : RollupRow) (rows low high : List RollupRow) : Type 0 where
  pub below : AllByRecursion (λ r. row_cmp q r ≡ Greater) low
  pub above : AllByRecursion (λ r. row_cmp q r ≡ Less) high
  pub same : Misses q grown rows low high ⊎ Meets q grown rows low high

-- Row `k` is above the next one.
abbrev pub RisesAt : List RollupRow → ℕ → Type 0
RisesAt rows k = (d : RollupRow) → row_cmp (slice_index_or rows (k + 1) d) (slice_index_or rows k d) ≡ Less

-- Each row from index `n` on, except for the last one, is above the next one.
abbrev pub RisesFrom : List RollupRow → ℕ → Type 0
RisesFrom rows n = (k : ℕ) → n ≤ k → k + 1 < length rows → RisesAt rows k
