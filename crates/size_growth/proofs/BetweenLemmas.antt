-- What the merged rows of two rollups say about both.
use Rattle.std.proofs.Common.{◌≡◌, ℕ, ◌+◌, ◌<◌, ◌≤◌, Bool, true, false, cond, List, ◌++◌, length, drop, refl, sym, ap, ◌∙◌, arith, map, ◌⊎◌, inl, inr}
use Rattle.std.specs.Prelude.{All}
use Rattle.std.specs.List.{sum_by}
use Rattle.std.specs.declared.cmp.Ordering.TheVariants.{Equal}
use Rattle.std.proofs.lemmas.List.{drop_all}
use Rattle.std.proofs.lemmas.List.Elements.{All-from_recursion, recursion_from_All}
use Rattle.path_rows.specs.declared.row.RollupRow.{RollupRow}
use Rattle.path_rows.specs.Paths.{row_cmp}
use Rattle.rollup.specs.Totals.{IsTotals}
use Rattle.report_rows.proofs.TableLemmas.{sum-zero}
use Rattle.size_growth.specs.Between.{IsBetween}
use Rattle.size_growth.specs.declared.growth.GrowthPath.{GrowthPath}
use Rattle.size_growth.specs.Merged.{new_path, base_path, both_path, merged}
use Rattle.size_growth.specs.Paths.{IsGrowth}
use Rattle.size_growth.specs.Sizes.{HasSize}
use Rattle.size_growth.proofs.MergeLemmas.{equal_path, each-merged, merged-sorted, sum-merged}

-- Past the last new row only base rows are left.
pub rest-left : (ns bs : List RollupRow) (i j : ℕ) (out new all : List GrowthPath) → length ns ≤ i → out ++ merged (drop i ns) (drop j bs) ≡ all → new ≡ out ++ map base_path (drop j bs) → new ≡ all
rest-left ns bs i j out new all le so-far is =
    let z : merged (drop i ns) (drop j bs) ≡ map base_path (drop j bs) = rw (drop_all i ns le) refl in
    is ∙ (ap (λ xs. out ++ xs) (sym z) ∙ so-far)

abbrev none : RollupRow → ℕ
none r = 0

cond-zero : (b : Bool) → ◌≡◌ {A = ℕ} (cond b 0 0) 0
cond-zero true = refl
cond-zero false = refl

-- A size of the new rows, and one of the base rows.
module _ (w : GrowthPath → ℕ) (u : RollupRow → ℕ) where
  of-new : ((n : RollupRow) → w (new_path n) ≡ u n) → ((b : RollupRow) → w (base_path b) ≡ 0) → ((n b : RollupRow) → row_cmp n b ≡ Equal → w (both_path n b) ≡ u n)
      → (ns bs : List RollupRow) → sum_by w (merged ns bs) ≡ sum_by u ns
  of-new one other both ns bs = omega (arith, sum-merged w u none one other (λ n b e. omega (arith, both n b e)) ns bs, sum-zero bs)

  of-base : ((n : RollupRow) → w (new_path n) ≡ 0) → ((b : RollupRow) → w (base_path b) ≡ u b) → ((n b : RollupRow) → row_cmp n b ≡ Equal → w (both_path n b) ≡ u b)
      → (ns bs : List RollupRow) → sum_by w (merged ns bs) ≡ sum_by u bs
  of-base one other both ns bs = omega (arith, sum-merged w none u one other (λ n b e. omega (arith, both n b e)) ns bs, sum-zero ns)

pub merged-between : (ns bs : List RollupRow) → IsBetween ns bs (merged ns bs)
merged-between ns bs = record {
  new_vm = λ test.
      of-new (λ p. cond (test p.path) p.sizes.new_vm 0) (λ r. cond (test r.path) r.vm 0) (λ n. refl) (λ b. cond-zero (test b.path)) (λ n b e. refl) ns bs;
  new_file = λ test.
      of-new (λ p. cond (test p.path) p.sizes.new_file 0) (λ r. cond (test r.path) r.file 0) (λ n. refl) (λ b. cond-zero (test b.path)) (λ n b e. refl) ns bs;
  base_vm = λ test.
      of-base (λ p. cond (test p.path) p.sizes.base_vm 0) (λ r. cond (test r.path) r.vm 0) (λ n. cond-zero (test n.path)) (λ b. refl) (λ n b e. ap (λ p. cond (test p) b.vm 0) (equal_path n b e)) ns bs;
  base_file = λ test.
      of-base (λ p. cond (test p.path) p.sizes.base_file 0) (λ r. cond (test r.path) r.file 0) (λ n. cond-zero (test n.path)) (λ b. refl) (λ n b e. ap (λ p. cond (test p) b.file 0) (equal_path n b e)) ns bs;
}

some-size : (a b c d : ℕ) → ((0 < a) ⊎ (0 < b)) → 0 < (a + b) + (c + d)
some-size a b c d (inl lt) = omega arith
some-size a b c d (inr lt) = omega arith

some-base : (c d : ℕ) → ((0 < c) ⊎ (0 < d)) → 0 < (0 + 0) + (c + d)
some-base c d (inl lt) = omega arith
some-base c d (inr lt) = omega arith

module _ (depth l m k n : ℕ) (ns bs : List RollupRow) (new : IsTotals depth ns l m) (base : IsTotals depth bs k n) where
  every : (P : GrowthPath → Type 0) (Q : RollupRow → Type 0) → ((r : RollupRow) → Q r → P (new_path r)) → ((r : RollupRow) → Q r → P (base_path r)) → ((r s : RollupRow) → Q r → P (both_path r s))
      → All Q ns → All Q bs → All P (merged ns bs)
  every P Q one other both hs ks = All-from_recursion P (merged ns bs) (each-merged P Q one other both ns bs (recursion_from_All Q ns hs) (recursion_from_All Q bs ks))

  pub merged-growth : IsGrowth depth (merged ns bs)
  merged-growth = record {
    ordered = merged-sorted ns bs new.ordered base.ordered;
    deep = every (λ p. length p.path ≡ depth) (λ r. length r.path ≡ depth) (λ r h. h) (λ r h. h) (λ r s h. h) new.deep base.deep;
    some = every (λ p. HasSize p.sizes) (λ r. (0 < r.vm) ⊎ (0 < r.file)) (λ r h. some-size r.vm r.file 0 0 h) (λ r h. some-base r.vm r.file h) (λ r s h. some-size r.vm r.file s.vm s.file h) new.some base.some;
    fits = record {
      new_vm = omega (arith, of-new (λ p. p.sizes.new_vm) (λ r. r.vm) (λ r. refl) (λ r. refl) (λ r s e. refl) ns bs, new.vm, new.mapped_fit);
      new_file = omega (arith, of-new (λ p. p.sizes.new_file) (λ r. r.file) (λ r. refl) (λ r. refl) (λ r s e. refl) ns bs, new.file, new.lengths_fit);
      base_vm = omega (arith, of-base (λ p. p.sizes.base_vm) (λ r. r.vm) (λ r. refl) (λ r. refl) (λ r s e. refl) ns bs, base.vm, base.mapped_fit);
      base_file = omega (arith, of-base (λ p. p.sizes.base_file) (λ r. r.file) (λ r. refl) (λ r. refl) (λ r s e. refl) ns bs, base.file, base.lengths_fit);
    };
  }
