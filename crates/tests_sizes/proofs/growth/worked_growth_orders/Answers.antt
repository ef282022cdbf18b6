use Rattle.std.proofs.Common.{◌≡◌, ℕ, List, [], ◌∷◌, length, refl, ap, Bool, true, false, arith}
use Rattle.std.specs.List.Sorted.{IsStrictlySortedBy}
use Rattle.std.proofs.lemmas.List.Elements.{All-from_recursion}
use Rattle.size_core.specs.declared.choices.Domain.TheVariants as domains
use Rattle.size_core.specs.declared.choices.Sort.TheVariants as sorts
use Rattle.report_rows.specs.Levels.{rows_over}
use Rattle.report_rows.specs.Order.{placed, in_order, within}
use Rattle.report_rows.specs.Trees.{is_others}
use Rattle.report_rows.proofs.CutLemmas.{one-order}
use Rattle.size_growth.specs.declared.growth.GrowthPath.{GrowthPath}
use Rattle.size_growth.specs.declared.row.GrowthRow.{GrowthRow}
use Rattle.size_growth.specs.GrowthTrees.{growth_report, sizes_of}
use Rattle.size_growth.specs.Paths.{IsGrowth}
use Rattle.size_growth.specs.Rows.{children, listing}
use Rattle.size_growth.specs.Runs.{runs}
use Rattle.size_growth.specs.Sizes.{HasSize}
use Rattle.size_growth.specs.Trees.{side_kind}
use Rattle.size_growth.specs.Worked.{IsOrdered, asked, four}
use Rattle.size_growth.proofs.GrowthOrderLemmas.{rows-show-growth}
use Rattle.tests_sizes.proofs.growth.worked_growth_orders.Goals as goal

is-growth : IsGrowth 1 four
unfolding IsStrictlySortedBy
is-growth = record {
  ordered = ((refl, (refl, (refl, tt))), ((refl, (refl, tt)), ((refl, tt), (tt, tt))));
  deep = All-from_recursion (λ (p : GrowthPath). length p.path ≡ 1) four (refl, (refl, (refl, (refl, tt))));
  some = All-from_recursion (λ (p : GrowthPath). HasSize p.sizes) four (omega arith, (omega arith, (omega arith, (omega arith, tt))));
  fits = record { new_vm = omega arith; new_file = omega arith; base_vm = omega arith; base_file = omega arith };
}

-- The rows of the function that sorts are in order, and no others are.
rows-of : ℕ → List GrowthRow
rows-of limit = listing (asked limit sorts.File domains.File) 1 0 four

ordered : (limit : ℕ) → IsOrdered limit (rows-of limit)
unfolding rows-of
ordered limit = (rows-show-growth (asked limit sorts.File domains.File) 1 four is-growth).rows

-- Whether the second row is an Others row.
abbrev second : List GrowthRow → Bool
second [] = false
second (r ∷ []) = false
second (r ∷ s ∷ rows) = is_others (side_kind s.kind)

other : (limit : ℕ) (rows : List GrowthRow) → (rows-of limit ≡ rows → ⊥) → ¬ IsOrdered limit rows
other limit rows differ is = differ (one-order (growth_report (asked limit sorts.File domains.File)) 1 0 (sizes_of four) (rows-of limit) rows (ordered limit) is)

pub returns : goal.returns
unfolding rows-of placed in_order runs children within rows_over
returns c = record {
  before_its_equal = ordered 2;
  not_after_its_equal = other 2 _ (λ e. let others : true ≡ false = ap second e in cc others);
  none_left_out = other 0 _ (λ e. let long : 3 ≡ 2 = ap length e in cc long);
}
