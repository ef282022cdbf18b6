-- The first section with the extended section indexes of a table, in file order and sorted by table.
use Rattle.std.proofs.Common.{◌≡◌, ◌≢◌, ℕ, zero, suc, ◌+◌, ◌-◌, ◌<◌, ◌≤◌, ◌==◌, ◌&&◌, not, Bool, true, false, Option, Some, None, List, [], ◌∷◌, ◌++◌, length, get_or, drop, refl, sym, ap, ◌∙◌, arith}
use Rattle.std.specs.Prelude.{if◌then◌else◌, nat_lt, IfSome}
use Rattle.std.specs.List.{filter}
use Rattle.std.specs.Ordering.{is_lt, nat_cmp}
use Rattle.std.specs.List.Sorted.{IsStableByKey, ties}
use Rattle.std.proofs.lemmas.Grind.{common_steps}
use Rattle.std.proofs.lemmas.List.{drop_all, drop_more}
use Rattle.size_core.specs.Gather.{gather, first_from}
use Rattle.elf_file.specs.Tables.{section_at, section_count}
use Rattle.elf_symbols.specs.declared.constants.TheConstants.{SHT_SYMTAB_SHNDX}
use Rattle.elf_symbols.specs.declared.numbers.TableNumbers.{TableNumbers}
use Rattle.elf_symbols.specs.Symbols.{has_numbers_of, numbers_index}
use Rattle.elf_symbols.specs.Numbers.{AreBefore, IsNumbersIndex, RiseByTable, all_numbers, first_for, numbers_at}

-- In file order.

first_of_one : (i j link : ℕ) (rest : List TableNumbers) (b : Bool)
    → first_for i ((if b then record { table = link; section = j } ∷ [] else []) ++ rest) ≡ (if b && link == i then Some j else first_for i rest)
unfolding first_for
first_of_one i j link rest true = refl
first_of_one i j link rest false = refl

first_of_next : (file : List ℕ) (i j : ℕ) (rest : List TableNumbers)
    → first_for i (numbers_at file j ++ rest) ≡ (if has_numbers_of file i j then Some j else first_for i rest)
unfolding numbers_at
first_of_next file i j rest = first_of_one i j (section_at file j).link rest ((section_at file j).kind == SHT_SYMTAB_SHNDX)

first_of_all : (file : List ℕ) (i j count : ℕ) → first_for i (gather (numbers_at file) j count) ≡ first_from (has_numbers_of file i) j count
unfolding gather first_from first_for
first_of_all file i j zero = refl
first_of_all file i j (suc count) =
    first_of_next file i j (gather (numbers_at file) (j + 1) count)
    ∙ ap (λ (o : Option ℕ). if has_numbers_of file i j then Some j else o) (first_of_all file i (j + 1) count)

-- Sorted by table: the sections of one table keep their order.

tie : (i k : ℕ) → (not (is_lt (nat_cmp i k)) && not (is_lt (nat_cmp k i))) ≡ (k == i)
tie i k = grind (arith, common_steps)

first_of_passing : (p : TableNumbers → Bool) (i : ℕ) → ((n : TableNumbers) → p n ≡ (n.table == i)) → (xs : List TableNumbers)
    → first_for i (filter p xs) ≡ first_for i xs
unfolding first_for
first_of_passing p i same [] = refl
first_of_passing p i same (n ∷ rest) = by_test (first_of_passing p i same rest) (n.table == i) (same n) refl
  where
    by_test : first_for i (filter p rest) ≡ first_for i rest → (b : Bool) → p n ≡ b → (n.table == i) ≡ b
        → first_for i (filter p (n ∷ rest)) ≡ (if n.table == i then Some n.section else first_for i rest)
    by_test later true passes here = rw (passes, here) refl
    by_test later false fails other = rw (fails, other) later

first_of_stable : (i : ℕ) (xs ys : List TableNumbers) → IsStableByKey (λ (n : TableNumbers). n.table) nat_cmp xs ys
    → first_for i ys ≡ first_for i xs
first_of_stable i xs ys stable =
    let of_table : TableNumbers = record { table = i; section = 0 } in
    let p : TableNumbers → Bool = ties (λ (x : TableNumbers) (y : TableNumbers). is_lt (nat_cmp x.table y.table)) of_table in
    let same : (n : TableNumbers) → p n ≡ (n.table == i) = λ n. tie i n.table in
    sym (first_of_passing p i same ys) ∙ ap (first_for i) (stable of_table) ∙ first_of_passing p i same xs

pub is_numbers_index : (file : List ℕ) (given known : List TableNumbers) → given ≡ all_numbers file → RiseByTable known
    → IsStableByKey (λ (n : TableNumbers). n.table) nat_cmp given known → IsNumbersIndex file known
unfolding all_numbers
is_numbers_index file given known are rises stable = record {
  rises = rises;
  first = λ i. first_of_stable i given known stable ∙ ap (first_for i) are ∙ first_of_all file i 1 (section_count file - 1);
}

-- Where a binary search ends.

first_or_later : (xs : List TableNumbers) (i k : ℕ) (d : TableNumbers) → k < length xs
    → first_for i (drop k xs) ≡ (if (get_or xs k d).table == i then Some (get_or xs k d).section else first_for i (drop (k + 1) xs))
unfolding first_for
first_or_later xs i k d lt = rw (drop_more xs k d lt) refl

other : (k i : ℕ) → k ≢ i → (k == i) ≡ false
other k i differ = grind (arith, common_steps)

first_later : (xs : List TableNumbers) (i k : ℕ) (d : TableNumbers) → k < length xs → (get_or xs k d).table ≢ i
    → first_for i (drop k xs) ≡ first_for i (drop (k + 1) xs)
first_later xs i k d lt differ = first_or_later xs i k d lt ∙ rw (other (get_or xs k d).table i differ) refl

past : (xs : List TableNumbers) (i k : ℕ) → length xs ≤ k → first_for i (drop k xs) ≡ None
unfolding first_for
past xs i k le = rw (drop_all k xs le) refl

-- None of the first k belongs to the table.
none_before : (xs : List TableNumbers) (i k : ℕ) (d : TableNumbers) → k ≤ length xs
    → ((j : ℕ) → j < k → (get_or xs j d).table ≢ i) → first_for i xs ≡ first_for i (drop k xs)
none_before xs i zero d le differ = refl
none_before xs i (suc k) d le differ =
    let next : k + 1 ≡ suc k = omega arith in
    none_before xs i k d (omega arith) (λ j lt. differ j (omega arith)) ∙ rw next at (first_later xs i k d (omega arith) (differ k (omega arith)))

-- None from k on belongs to the table.
none_after : (xs : List TableNumbers) (i k left : ℕ) (d : TableNumbers) → length xs ≤ k + left
    → ((j : ℕ) → k ≤ j → j < length xs → (get_or xs j d).table ≢ i) → first_for i (drop k xs) ≡ None
none_after xs i k zero d le differ = past xs i k (omega arith)
none_after xs i k (suc left) d le differ =
    by_place (λ lt. none_after xs i (k + 1) left d (omega arith) (λ j from. differ j (omega arith))) (nat_lt k (length xs)) refl
  where
    by_place : (k < length xs → first_for i (drop (k + 1) xs) ≡ None) → (b : Bool) → nat_lt k (length xs) ≡ b
        → first_for i (drop k xs) ≡ None
    by_place later true within =
        let lt : k < length xs = grind (arith, common_steps) in
        first_later xs i k d lt (differ k (omega arith) lt) ∙ later lt
    by_place later false beyond = past xs i k (grind (arith, common_steps))

-- In sorted sections, k of them belong to tables before section i.
module _ (xs : List TableNumbers) (i k : ℕ) (rises : RiseByTable xs) (bound : k ≤ length xs) (point : AreBefore i xs k) where
  differs_before : (j : ℕ) (d : TableNumbers) → j < k → (get_or xs j d).table ≢ i
  differs_before j d lt = let less = point.0 j d (omega arith) lt in let below : (get_or xs j d).table < i = grind (arith, common_steps) in omega arith

  differs_after : (j : ℕ) (d : TableNumbers) → k < length xs → (get_or xs k d).table ≢ i → k ≤ j → j < length xs → (get_or xs j d).table ≢ i
  differs_after j d lt differ from within =
      let high = point.1 k d (omega arith) lt in
      let least : i ≤ (get_or xs k d).table = grind (arith, common_steps) in
      let up : (get_or xs k d).table ≤ (get_or xs j d).table = rises k j d from within in
      omega arith

  from_there : (d : TableNumbers) → first_for i xs ≡ first_for i (drop k xs)
  from_there d = none_before xs i k d bound (λ j lt. differs_before j d lt)

  pub found : (d : TableNumbers) → k < length xs → (get_or xs k d).table ≡ i → first_for i xs ≡ Some (get_or xs k d).section
  found d lt here =
      let same : ((get_or xs k d).table == i) ≡ true = grind (arith, common_steps) in
      from_there d ∙ first_or_later xs i k d lt ∙ rw same refl

  pub passed : (d : TableNumbers) → k < length xs → (get_or xs k d).table ≢ i → first_for i xs ≡ None
  passed d lt differ = from_there d ∙ none_after xs i k (length xs) d (omega arith) (λ j from within. differs_after j d lt differ from within)

  pub ended : length xs ≤ k → first_for i xs ≡ None
  ended le = from_there (record { table = 0; section = 0 }) ∙ past xs i k le

-- The first section with the extended section indexes of a table is a section of the file.

first_within : (p : ℕ → Bool) (i count n : ℕ) → count ≤ n - i → IfSome (first_from p i count) (λ j. j < n)
unfolding first_from
first_within p i zero n le = tt
first_within p i (suc count) n le = by_test (p i) (first_within p (i + 1) count n (omega arith))
  where
    by_test : (b : Bool) → IfSome (first_from p (i + 1) count) (λ j. j < n)
        → IfSome (if b then Some i else first_from p (i + 1) count) (λ j. j < n)
    by_test true later = omega arith
    by_test false later = later

pub numbers_within : (file : List ℕ) (i : ℕ) → IfSome (numbers_index file i) (λ j. j < section_count file)
numbers_within file i = first_within (has_numbers_of file i) 1 (section_count file - 1) (section_count file) (omega arith)
