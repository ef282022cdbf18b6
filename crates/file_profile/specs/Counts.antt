-- How many bytes of a file have a path that passes a test.
use Rattle.std.specs.Prelude.{ℕ, ◌+◌, ◌*◌, ◌^◌, Bool, ◌&&◌, List, length, map, Option, None, Some, option_map}
use Rattle.std.specs.List.{sum_by}
use Rattle.size_model.specs.declared.view.FileView.{FileView}
use Rattle.size_model.specs.declared.view.SourceView.{SourceView}
use Rattle.size_model.specs.Count.{count_from}
use Rattle.size_model.specs.Loads.{is_mapped}
use Rattle.size_model.specs.Sizes.{offset_path, passes, position_path}
use Rattle.custom_rewrites.specs.Pattern.{is_found}

-- A label passes a filter if the filter's pattern is found in it.
abbrev pub filter_test : Option (List ℕ) → Option (List ℕ → Bool)
filter_test filter = option_map is_found filter

-- Which labels of a pool pass a filter.
abbrev pub marks_by : Option (List ℕ) → List (List ℕ) → Option (List Bool)
marks_by None pool = None
marks_by (Some pattern) pool = Some (map (is_found pattern) pool)

-- The number of file offsets whose path passes the filter and the test. If the test is that a path begins with a
-- prefix, this is the file size of the prefix.
abbrev pub file_size_where : Option (List ℕ → Bool) → (List (List ℕ) → Bool) → FileView → ℕ
file_size_where filter test f = count_from (λ o. passes filter (offset_path f o) && test (offset_path f o)) 0 f.len

-- The number of mapped positions whose path does.
abbrev pub vm_size_where : Option (List ℕ → Bool) → (List (List ℕ) → Bool) → FileView → ℕ
vm_size_where filter test f =
    count_from (λ p. is_mapped f.loads p && (passes filter (position_path f p) && test (position_path f p))) 0 (2 ^ 96)

-- An upper bound for the number of pieces in the two maps of this many claims, over this many loads.
abbrev pub piece_bound : ℕ → ℕ → ℕ
piece_bound loads claims = 4 * claims * (2 * loads + 1) + 2 * (2 * loads + 1) + 4

-- An upper bound for the steps that a file takes: for each data source, by its claims and the file's loads.
abbrev pub step_bound : FileView → ℕ
step_bound f = sum_by (λ (s : SourceView). piece_bound (length f.loads) (length s.claims)) f.sources
