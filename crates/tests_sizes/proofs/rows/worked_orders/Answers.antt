use Rattle.std.proofs.Common.{◌≡◌, ℕ, List, [], ◌∷◌, length, refl, sym, ap, Bool, true, false}
use Rattle.size_core.specs.declared.choices.Domain.TheVariants as domains
use Rattle.size_core.specs.declared.choices.Sort.TheVariants as sorts
use Rattle.report_rows.specs.declared.row.Row.{Row}
use Rattle.report_rows.specs.Levels.{rows_over}
use Rattle.report_rows.specs.Order.{placed, in_order, within}
use Rattle.report_rows.specs.Rows.{children, listing}
use Rattle.report_rows.specs.SizeTrees.{both_sizes, size_report}
use Rattle.report_rows.specs.Tables.{Table, file_sum, first_labels, under, under_path, vm_sum}
use Rattle.report_rows.specs.Trees.{is_others}
use Rattle.report_rows.specs.Worked.{IsOrdered, asked, five}
use Rattle.report_rows.proofs.CutLemmas.{one-order}
use Rattle.report_rows.proofs.SizeOrderLemmas.{rows-in-order}
use Rattle.tests_sizes.proofs.rows.worked_orders.Goals as goal

-- The rows of the function that sorts are in order, and no others are.
rows-of : ℕ → List Row
rows-of limit = listing (asked limit sorts.Both domains.File) 1 0 five

ordered : (limit : ℕ) → IsOrdered limit (rows-of limit)
unfolding rows-of
ordered limit =
    (
    rows-in-order (asked limit sorts.Both domains.File) (record { depth = 1; rows = five; lengths = 0; mapped = 0 }) (λ path. vm_sum (under_path path five)) (λ path. file_sum (under_path path five))
    (record { vm_is = λ path. refl; file_is = λ path. refl })
    ).rows

-- Whether the second row is an Others row.
abbrev second : List Row → Bool
second [] = false
second (r ∷ []) = false
second (r ∷ s ∷ rows) = is_others s.kind

other : (limit : ℕ) (rows : List Row) → (rows-of limit ≡ rows → ⊥) → ¬ IsOrdered limit rows
other limit rows differ is =
    differ
    (one-order (size_report (asked limit sorts.Both domains.File)) 1 0 (both_sizes (λ path. vm_sum (under_path path five)) (λ path. file_sum (under_path path five))) (rows-of limit) rows (ordered limit) is)

pub returns : goal.returns
unfolding rows-of placed in_order under first_labels children within rows_over
returns c = record {
  before_its_equal = ordered 2;
  not_after_its_equal = other 2 _ (λ e. let others : true ≡ false = ap second e in cc others);
  no_limit = ordered 0;
  none_left_out = other 0 _ (λ e. let long : 5 ≡ 2 = ap length e in cc long);
}
