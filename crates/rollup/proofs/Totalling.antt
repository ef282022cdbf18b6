-- What is known of a rollup after a file.
use Rattle.std.proofs.Common.{◌≡◌, ◌+◌, ◌-◌, ◌<◌, ◌≤◌, ◌^◌, ℕ, Bool, true, cond, List, map, length, refl, sym, ap, subst, ◌∙◌, ◌⊎◌, arith}
use Rattle.std.specs.Prelude.{All, slice_index_or}
use Rattle.std.specs.List.{sum_by}
use Rattle.std.specs.List.Sorted.{IsPermutation}
use Rattle.std.proofs.lemmas.List.{get_or-map, length-map}
use Rattle.std.proofs.lemmas.List.Sorted.{All-permutation, IsPermutation-trans, sum_by-IsPermutation}
use Rattle.size_model.specs.Numbered.{text_of}
use Rattle.path_rows.specs.declared.row.RollupRow.{RollupRow}
use Rattle.path_rows.specs.Rows.{FitTogether, Merges}
use Rattle.path_rows.specs.Sums.{file_where, vm_where}
use Rattle.rollup.specs.declared.cursor.Part.TheVariants.{File, Vm}
use Rattle.rollup.specs.Sizes.{Entry, IsEntry, no_entry, row_of, weight}
use Rattle.rollup.specs.Totals.{IsTotals}
use Rattle.rollup.proofs.Gathered.{rows-weigh}

-- New rows in another order fit as well.
pub moved_fits : (rows others moved : List RollupRow) → IsPermutation others moved → FitTogether rows others → FitTogether rows moved
moved_fits rows others moved p h = record {
  vm = omega (arith, sum_by-IsPermutation (λ (q : RollupRow). q.vm) others moved p, h.vm);
  file = omega (arith, sum_by-IsPermutation (λ (q : RollupRow). q.file) others moved p, h.file);
}

pub merges_moved : (rows others moved merged : List RollupRow) → IsPermutation others moved → Merges rows moved merged → Merges rows others merged
merges_moved rows others moved merged p m = record {
  exact = record { order = m.exact.order; same = IsPermutation-trans others moved m.exact.order p m.exact.same; is = m.exact.is };
  ordered = m.ordered;
  file = λ test. m.file test ∙ ap (λ k. file_where test rows + k) (sum_by-IsPermutation (λ (r : RollupRow). cond (test r.path) r.file 0) others moved p);
  vm = λ test. m.vm test ∙ ap (λ k. vm_where test rows + k) (sum_by-IsPermutation (λ (r : RollupRow). cond (test r.path) r.vm 0) others moved p);
  deep = λ depth before each. m.deep depth before (All-permutation (λ (r : RollupRow). length r.path ≡ depth) others moved p each);
  some = λ before each. m.some before (All-permutation (λ (r : RollupRow). (0 < r.vm) ⊎ (0 < r.file)) others moved p each);
}

-- The old rows, and those of a file.
module _ (pool : List (List ℕ)) (old : List RollupRow) (es : List Entry) where
  abbrev fresh : List RollupRow
  fresh = map (row_of pool) es

  file_all : sum_by (λ (r : RollupRow). r.file) fresh ≡ weight File (λ _. true) es
  file_all = rows-weigh File (λ (r : RollupRow). r.file) pool (λ _. true) (λ e. refl) es

  vm_all : sum_by (λ (r : RollupRow). r.vm) fresh ≡ weight Vm (λ _. true) es
  vm_all = rows-weigh Vm (λ (r : RollupRow). r.vm) pool (λ _. true) (λ e. refl) es

  pub fit_together : (depth lengths mapped len n : ℕ) → IsTotals depth old lengths mapped → weight File (λ _. true) es ≤ len → weight Vm (λ _. true) es ≤ n → lengths + len ≤ 2 ^ 63 - 1 → mapped + n ≤ 2 ^ 63 - 1
      → FitTogether old fresh
  fit_together depth lengths mapped len n t file vm len_fits n_fits = record {
    vm = omega (arith, vm_all, vm, t.vm, n_fits);
    file = omega (arith, file_all, file, t.file, len_fits);
  }

  -- The sizes after a merge are those of the old rows and of the file's entries.
  pub file_added : (test : List (List ℕ) → Bool) (new : List RollupRow) → Merges old fresh new → file_where test new ≡ file_where test old + weight File (λ ns. test (map (text_of pool) ns)) es
  file_added test new m = m.file test ∙ ap (λ k. file_where test old + k) (rows-weigh File (λ (r : RollupRow). r.file) pool test (λ e. refl) es)

  pub vm_added : (test : List (List ℕ) → Bool) (new : List RollupRow) → Merges old fresh new → vm_where test new ≡ vm_where test old + weight Vm (λ ns. test (map (text_of pool) ns)) es
  vm_added test new m = m.vm test ∙ ap (λ k. vm_where test old + k) (rows-weigh Vm (λ (r : RollupRow). r.vm) pool test (λ e. refl) es)

  all_fresh : (P : RollupRow → Type 0) → ((k : ℕ) (d : Entry) → k < length es → P (row_of pool (slice_index_or es k d))) → All P fresh
  all_fresh P h k d lt =
      let within : k < length es = omega (arith, length-map es (row_of pool)) in
      subst P (sym (get_or-map (row_of pool) es k no_entry d within)) (h k no_entry within)

  pub new_totals : (depth lengths mapped len n limit : ℕ) (new : List RollupRow) → IsTotals depth old lengths mapped → All (IsEntry depth limit) es → Merges old fresh new
      → weight File (λ _. true) es ≤ len → weight Vm (λ _. true) es ≤ n → lengths + len ≤ 2 ^ 63 - 1 → mapped + n ≤ 2 ^ 63 - 1 → IsTotals depth new (lengths + len) (mapped + n)
  new_totals depth lengths mapped len n limit new t all m file vm len_fits n_fits =
      let files : sum_by (λ (r : RollupRow). r.file) new ≡ sum_by (λ (r : RollupRow). r.file) old + sum_by (λ (r : RollupRow). r.file) fresh = m.file (λ _. true) in
      let vms : sum_by (λ (r : RollupRow). r.vm) new ≡ sum_by (λ (r : RollupRow). r.vm) old + sum_by (λ (r : RollupRow). r.vm) fresh = m.vm (λ _. true) in
      record {
        ordered = m.ordered;
        deep = m.deep depth t.deep (all_fresh (λ (r : RollupRow). length r.path ≡ depth) (λ k d lt. length-map (slice_index_or es k d).numbers (text_of pool) ∙ (all k d lt).deep));
        some = m.some t.some (all_fresh (λ (r : RollupRow). (0 < r.vm) ⊎ (0 < r.file)) (λ k d lt. (all k d lt).some));
        file = omega (arith, files, file_all, file, t.file);
        vm = omega (arith, vms, vm_all, vm, t.vm);
        lengths_fit = len_fits;
        mapped_fit = n_fits;
      }
