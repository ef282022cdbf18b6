-- Sums of sizes.
use Rattle.std.proofs.Common.{◌≡◌, ℕ, ◌+◌, ◌<◌, List, length, get_or, take, drop, refl, sym, arith}
use Rattle.std.proofs.lemmas.List.Sums.{sum_by_more, sum_by_more_le}
use Rattle.report_rows.proofs.GroupLemmas.{part-le}
use Rattle.report_rows.proofs.TableLemmas.{sum_by-map}
use Rattle.size_growth.specs.declared.growth.GrowthPath.{GrowthPath}
use Rattle.size_growth.specs.declared.growth.GrowthSizes.{GrowthSizes}
use Rattle.size_growth.specs.Paths.{sums}
use Rattle.size_growth.specs.Runs.{path_from, table_at}
use Rattle.size_growth.specs.Sizes.{Fits, plus, sums_by}

same_fields : (a b c d e f g h : ℕ) → a ≡ e → b ≡ f → c ≡ g → d ≡ h
    → ◌≡◌ {A = GrowthSizes} (record { new_vm = a; new_file = b; base_vm = c; base_file = d }) (record { new_vm = e; new_file = f; base_vm = g; base_file = h })
same_fields a b c d e f g h p q r s = rw (p, q, r, s) refl

-- Sizes that are equal one by one.
pub same_sizes : (s t : GrowthSizes) → s.new_vm ≡ t.new_vm → s.new_file ≡ t.new_file → s.base_vm ≡ t.base_vm → s.base_file ≡ t.base_file → s ≡ t
same_sizes s t p q r u = same_fields s.new_vm s.new_file s.base_vm s.base_file t.new_vm t.new_file t.base_vm t.base_file p q r u

module _ {X : Type 0} (f : X → GrowthSizes) where
  pub sums_more : (xs : List X) (i : ℕ) (d : X) → i < length xs → plus (sums_by f (take i xs)) (f (get_or xs i d)) ≡ sums_by f (take (i + 1) xs)
  sums_more xs i d lt =
      same_sizes (plus (sums_by f (take i xs)) (f (get_or xs i d))) (sums_by f (take (i + 1) xs)) (sym (sum_by_more (λ x. (f x).new_vm) xs i d lt)) (sym (sum_by_more (λ x. (f x).new_file) xs i d lt))
      (sym (sum_by_more (λ x. (f x).base_vm) xs i d lt)) (sym (sum_by_more (λ x. (f x).base_file) xs i d lt))

  pub fits_more : (xs : List X) (i : ℕ) (d : X) → i < length xs → Fits (sums_by f xs) → Fits (plus (sums_by f (take i xs)) (f (get_or xs i d)))
  fits_more xs i d lt fits = record {
    new_vm = omega (arith, sum_by_more_le (λ x. (f x).new_vm) xs i d lt, fits.new_vm);
    new_file = omega (arith, sum_by_more_le (λ x. (f x).new_file) xs i d lt, fits.new_file);
    base_vm = omega (arith, sum_by_more_le (λ x. (f x).base_vm) xs i d lt, fits.base_vm);
    base_file = omega (arith, sum_by_more_le (λ x. (f x).base_file) xs i d lt, fits.base_file);
  }

  pub fits_part : (xs : List X) (from n : ℕ) → Fits (sums_by f xs) → Fits (sums_by f (take n (drop from xs)))
  fits_part xs from n fits = record {
    new_vm = omega (arith, part-le (λ x. (f x).new_vm) xs from n, fits.new_vm);
    new_file = omega (arith, part-le (λ x. (f x).new_file) xs from n, fits.new_file);
    base_vm = omega (arith, part-le (λ x. (f x).base_vm) xs from n, fits.base_vm);
    base_file = omega (arith, part-le (λ x. (f x).base_file) xs from n, fits.base_file);
  }

-- The sizes of paths from a level on are their own.
pub sums_table : (level : ℕ) (paths : List GrowthPath) → sums (table_at level paths) ≡ sums paths
sums_table level paths =
    same_sizes (sums (table_at level paths)) (sums paths) (sum_by-map (λ (p : GrowthPath). p.sizes.new_vm) (path_from level) paths) (sum_by-map (λ (p : GrowthPath). p.sizes.new_file) (path_from level) paths)
    (sum_by-map (λ (p : GrowthPath). p.sizes.base_vm) (path_from level) paths) (sum_by-map (λ (p : GrowthPath). p.sizes.base_file) (path_from level) paths)
