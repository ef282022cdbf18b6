-- What profiling a file adds to a total.
use Rattle.std.specs.Prelude.{◌≡◌, ◌+◌, ◌^◌, ◌<◌, ◌≤◌, ℕ, Bool, List, Option, Result, Ok, Err, OnOk, OnErr, length}
use Rattle.size_model.specs.declared.view.FileView.{FileView}
use Rattle.size_model.specs.Loads.{mapped_count}
use Rattle.path_rows.specs.Sums.{file_where, vm_where}
use Rattle.rollup.specs.Totals.{Totals}
use Rattle.file_profile.specs.Counts.{file_size_where, filter_test, step_bound, vm_size_where}
use Rattle.file_profile.specs.Sources.{Chosen}

-- The sizes of a file of `len` bytes can be added to a total.
--
-- short: The file has fewer than 2^32 bytes.
-- depth: A path of the total has a label for each data source.
-- lengths: The lengths of the files of the total and of this one add up to at most 2^62 bytes.
pub record CanProfile (len : ℕ) (sources : List Chosen) (t : Totals) : Type 0 where
  pub short : len < 2 ^ 32
  pub depth : t.depth ≡ length sources
  pub lengths : t.lengths + len ≤ 2 ^ 62

-- The effect of profiling a file of `len` bytes. `counted` is the file as it is counted, or why it isn't counted; `view` is the
-- same without the check of its mapped size. `old` and `new` are the total before and after, `before` and `after` the counts of
-- steps.
--
-- unchanged: After an error the total is as before.
-- file, vm: For every set of paths (`test`), the sizes of the total grow by the number of the file's bytes, and of its mapped
--     addresses, whose path is in the set and passes the filter.
-- depth: A path of the total has as many labels as before.
-- lengths, mapped: The length of the file and its mapped size were added, whether a filter passed them or not.
-- cost: The steps are bounded by the claims and the loads of the file.
-- free: No step was taken if the file or its claims have a fault.
pub record Profiles {X A V W : Type 0} (result : Result X A) (counted : Result FileView V) (view : Result FileView W)
    (filter : Option (List ℕ)) (len : ℕ) (old new : Totals) (before after : ℕ) : Type 0 where
  pub unchanged : OnErr result (new ≡ old)
  pub file : OnOk result ((f : FileView) (test : List (List ℕ) → Bool) → counted ≡ Ok f
      → file_where test new.rows ≡ file_where test old.rows + file_size_where (filter_test filter) test f)
  pub vm : OnOk result ((f : FileView) (test : List (List ℕ) → Bool) → counted ≡ Ok f
      → vm_where test new.rows ≡ vm_where test old.rows + vm_size_where (filter_test filter) test f)
  pub depth : new.depth ≡ old.depth
  pub lengths : OnOk result (new.lengths ≡ old.lengths + len)
  pub mapped : OnOk result ((f : FileView) → counted ≡ Ok f → new.mapped ≡ old.mapped + mapped_count f.loads)
  pub cost : (f : FileView) → view ≡ Ok f → after ≤ before + step_bound f
  pub free : (fault : W) → view ≡ Err fault → after ≡ before
