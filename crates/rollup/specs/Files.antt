-- The sizes of one file, which are counted first and then added to those of all files.
use Rattle.std.specs.Prelude.{◌≡◌, ◌+◌, ◌-◌, ◌^◌, ◌<◌, ◌≤◌, ◌↔◌, ℕ, Bool, true, List, Option, Result, IfOk, OnOk, OnErr, All, length, map}
use Rattle.std.specs.Result.{IsErrOf}
use Rattle.size_model.specs.Loads.{mapped_count}
use Rattle.size_model.specs.Numbered.{text_of}
use Rattle.dual_map.specs.Layout.{LabelsBelow, Layout, Maps}
use Rattle.path_rows.specs.Sums.{file_where, vm_where}
use Rattle.rollup.specs.declared.answer.RollupAnswer.{RollupAnswer}
use Rattle.rollup.specs.declared.answer.RollupAnswer.TheVariants.{MappedTooLarge, TooManyBytes}
use Rattle.rollup.specs.declared.cursor.Part.TheVariants.{File, Vm}
use Rattle.rollup.specs.Counted.{file_counted, vm_counted}
use Rattle.rollup.specs.Sizes.{Entry, IsEntry, weight}
use Rattle.rollup.specs.Totals.{Totals}

-- What contracts see of the sizes of a file: the sizes by the numbers of its labels, the length of the file and its mapped
-- size, in bytes.
pub record CountedFile : Type 0 where
  pub entries : List Entry
  pub len : ℕ
  pub mapped : ℕ

-- The sizes of all labels add up to no more than the file has.
pub record IsWithin (entries : List Entry) (len mapped : ℕ) : Type 0 where
  pub file : weight File (λ _. true) entries ≤ len
  pub vm : weight Vm (λ _. true) entries ≤ mapped

-- These are the sizes of a file with these maps.
--
-- file, vm: For any test of a list of numbers, the sizes that pass it add up to the number of offsets, and of mapped
--     positions, whose labels count and have numbers that pass it.
-- entries: Each entry has a label of each map.
-- len, mapped: The length of the file and its mapped size, whether a filter passed them or not.
pub record CountsFile (layout : Layout) (maps : List Maps) (marks : Option (List Bool)) (f : CountedFile) : Type 0 where
  pub file : (test : List ℕ → Bool) → weight File test f.entries ≡ file_counted test marks maps layout.len
  pub vm : (test : List ℕ → Bool) → weight Vm test f.entries ≡ vm_counted test marks maps layout.loads
  pub entries : (n : ℕ) → All (LabelsBelow n) maps → All (IsEntry (length maps) n) f.entries
  pub len : f.len ≡ layout.len
  pub mapped : f.mapped ≡ mapped_count layout.loads

-- With this file, the lengths and the mapped sizes of all files add up to at most 2^63 - 1.
pub record FitsInto (t : Totals) (f : CountedFile) : Type 0 where
  pub lengths : t.lengths + f.len ≤ 2 ^ 63 - 1
  pub mapped : t.mapped + f.mapped ≤ 2 ^ 63 - 1

-- The result of counting the sizes of a file that is to be added to these totals.
--
-- counts, fits: What was counted is the file's, and it fits.
-- too_many_bytes: The length of the file doesn't fit.
-- mapped_too_large: The length fits, and the mapped size doesn't.
pub record CountsInto (t : Totals) (layout : Layout) (maps : List Maps) (marks : Option (List Bool))
    (result : Result CountedFile RollupAnswer) : Type 0 where
  pub counts : IfOk result (CountsFile layout maps marks)
  pub fits : IfOk result (FitsInto t)
  pub too_many_bytes : IsErrOf result TooManyBytes ↔ (2 ^ 63 - 1 < t.lengths + layout.len)
  pub mapped_too_large : IsErrOf result MappedTooLarge
      ↔ ((t.lengths + layout.len ≤ 2 ^ 63 - 1) × (2 ^ 63 - 1 < t.mapped + mapped_count layout.loads))

-- The sizes of a file were added, or nothing changed. For any test of a path, the sizes that pass it grow by those of the file
-- whose numbers spell such a path.
pub record AddsFile {X E : Type 0} (result : Result X E) (pool : List (List ℕ)) (f : CountedFile) (old new : Totals) : Type 0 where
  pub file : OnOk result ((test : List (List ℕ) → Bool)
      → file_where test new.rows ≡ file_where test old.rows + weight File (λ ns. test (map (text_of pool) ns)) f.entries)
  pub vm : OnOk result ((test : List (List ℕ) → Bool)
      → vm_where test new.rows ≡ vm_where test old.rows + weight Vm (λ ns. test (map (text_of pool) ns)) f.entries)
  pub depth : new.depth ≡ old.depth
  pub lengths : OnOk result (new.lengths ≡ old.lengths + f.len)
  pub mapped : OnOk result (new.mapped ≡ old.mapped + f.mapped)
  pub unchanged : OnErr result (new ≡ old)
