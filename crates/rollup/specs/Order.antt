-- Labels and paths by their ranks.
use Rattle.std.specs.Prelude.{◌≡◌, ◌+◌, ◌*◌, ◌<◌, ℕ, List, [], ◌∷◌, All, map, length, slice_index_or}
use Rattle.std.specs.Cmp.Lexicographic.{slice_cmp}
use Rattle.std.specs.Global.{Vec}
use Rattle.std.specs.List.Sorted.{IsPermutation, IsSorted}
use Rattle.std.specs.Ordering.{nat_cmp}
use Rattle.std.specs.declared.cmp.Ordering.{Ordering}
use Rattle.size_model.specs.Numbered.{text_of}
use Rattle.rollup.specs.declared.fresh.Keyed.{Keyed}
use Rattle.rollup.specs.declared.order.WordedLabel.{WordedLabel}
use Rattle.path_rows.specs.declared.row.RollupRow.{RollupRow}
use Rattle.path_rows.specs.Rows.{FitTogether, falling}
use Rattle.path_rows.specs.Words.{IsLessByWord, word_after}
use Rattle.rollup.specs.Sizes.{Entry, no_entry, row_of}

-- The order of the labels of two numbers, byte by byte.
abbrev pub label_cmp : List (List ℕ) → ℕ → ℕ → Ordering
label_cmp pool a b = slice_cmp nat_cmp (text_of pool a) (text_of pool b)

-- A list whose order is that of worded labels: the word, and then the bytes of the label.
abbrev pub worded_key : List (List ℕ) → WordedLabel → List ℕ
worded_key pool w = w.word ∷ text_of pool w.number

-- The order of labels by their words, and for equal words by their bytes.
abbrev pub worded_cmp : List (List ℕ) → WordedLabel → WordedLabel → Ordering
worded_cmp pool a b = slice_cmp nat_cmp (worded_key pool a) (worded_key pool b)

-- The word is that of the label, which is less than each label of a greater word.
pub record IsWorded (pool : List (List ℕ)) (w : WordedLabel) : Type 0 where
  pub word : w.word ≡ word_after 0 8 (text_of pool w.number)
  pub less : IsLessByWord w.word (text_of pool w.number)

-- The rank of a label, by its number.
abbrev pub rank_in : List ℕ → ℕ → ℕ
rank_in ranks n = slice_index_or ranks n 0

-- `indices` has, at each number of the list `numbers`, the index of this number in the list.
pub record AreIndices (numbers indices : List ℕ) : Type 0 where
  pub count : length indices ≡ length numbers
  pub index : (k : ℕ) → k < length numbers → rank_in indices (slice_index_or numbers k 0) ≡ k

-- The ranks of labels compare as the labels do.
pub record RankLabels (pool : List (List ℕ)) (ranks : List ℕ) : Type 0 where
  pub same : (a b : ℕ) → a < length pool → b < length pool → nat_cmp (rank_in ranks a) (rank_in ranks b) ≡ label_cmp pool a b

-- `r` has the index of an entry and the ranks of its labels.
pub record IsRanked (ranks : List ℕ) (es : List Entry) (r : Keyed (Vec ℕ)) : Type 0 where
  pub within : r.entry < length es
  pub along : r.key.items ≡ map (rank_in ranks) (slice_index_or es r.entry no_entry).numbers

-- A number `n`, followed by these digits to a base.
abbrev pub digits_after : ℕ → ℕ → List ℕ → ℕ
digits_after base n [] = n
digits_after base n (x ∷ xs) = digits_after base (n * base + x) xs

-- `k` has the index of an entry with `depth` labels, and a key whose digits are the ranks of these labels. Each digit
-- is below the base, which is the number of ranks.
pub record IsKeyed (ranks : List ℕ) (depth : ℕ) (es : List Entry) (k : Keyed ℕ) : Type 0 where
  pub within : k.entry < length es
  pub deep : length (slice_index_or es k.entry no_entry).numbers ≡ depth
  pub below : All (λ r. r < length ranks) (map (rank_in ranks) (slice_index_or es k.entry no_entry).numbers)
  pub key : k.key ≡ digits_after (length ranks) 0 (map (rank_in ranks) (slice_index_or es k.entry no_entry).numbers)

-- The row of a keyed entry.
abbrev pub keyed_row : {K : Type 0} → List (List ℕ) → List Entry → Keyed K → RollupRow
keyed_row pool es k = row_of pool (slice_index_or es k.entry no_entry)

-- The labels of the entries are in the pool, and the sizes of all rows fit together.
pub record HaveRows (pool : List (List ℕ)) (es : List Entry) : Type 0 where
  pub below : All (λ (e : Entry). All (λ n. n < length pool) e.numbers) es
  pub fits : FitTogether [] (map (row_of pool) es)

-- The rows of these entries, the greatest path first.
pub record AreNewRows (pool : List (List ℕ)) (es : List Entry) (rows : List RollupRow) : Type 0 where
  pub same : IsPermutation (map (row_of pool) es) rows
  pub falls : IsSorted falling rows
