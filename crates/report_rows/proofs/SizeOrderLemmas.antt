-- The rows of every report of sizes are in its order.
use Rattle.std.proofs.Common.{◌≡◌, ℕ, zero, suc, ◌+◌, List, [], ◌∷◌, length, map, refl, sym, ap, ◌∙◌, subst}
use Rattle.std.specs.Prelude.{filter, nat_lt}
use Rattle.std.specs.List.{sum_by}
use Rattle.std.specs.List.Sorted.{IsSorted, IsStrictlySortedBy}
use Rattle.std.specs.Ordering.{is_lt, nat_cmp}
use Rattle.std.proofs.lemmas.List.{length-map}
use mathlib.Core.Path.{fun_ext}
use Rattle.report_rows.specs.declared.row.RowKind.TheVariants.{Others}
use Rattle.report_rows.specs.declared.row.Row.{Row}
use Rattle.report_rows.specs.declared.row.RowOptions.{RowOptions}
use Rattle.report_rows.specs.Keys.{key_of}
use Rattle.report_rows.specs.Levels.{rows_over}
use Rattle.report_rows.specs.Ordered.{InReportOrder}
use Rattle.report_rows.specs.Paths.{Path, times}
use Rattle.report_rows.specs.Rows.{Entry, by_key, children, has_shown, label_cmp, label_entry, listing, others_entry, row_of}
use Rattle.report_rows.specs.SizeTrees.{RowsAreInOrder, Sizes, both_sizes, size_report}
use Rattle.report_rows.specs.Tables.{Table, file_sum, first_labels, under, under_path, vm_sum}
use Rattle.report_rows.proofs.OrderLemmas.{in_order-sorted}
use Rattle.report_rows.proofs.PathLemmas.{child-once}
use Rattle.report_rows.proofs.PlacingLemmas.{are-rows, at-most-one, lt-is, strictly}
use Rattle.report_rows.proofs.SortLemmas.{label_key, label_total}
use Rattle.report_rows.proofs.TableLemmas.{sum_by-map}
use Rattle.report_rows.proofs.TreeLemmas.{listing-nil}

-- The sizes of the table under each path.
abbrev table_sizes : Table → Path → Sizes
table_sizes t = both_sizes (λ path. vm_sum (under_path path t)) (λ path. file_sum (under_path path t))

-- The sizes of the table under each label.
abbrev label_sizes : Table → List ℕ → Sizes
label_sizes t label = record { vm = vm_sum (under label t); file = file_sum (under label t) }

-- The children are in order, each once.
in-order : (o : RowOptions) (t : Table) → IsSorted (label_cmp o t) (children o t)
unfolding children
in-order o t = in_order-sorted (label_cmp o t) (label_total o t) (filter (has_shown o t) (first_labels t))

children-sorted : (o : RowOptions) (t : Table) → IsStrictlySortedBy (label_cmp o t) (children o t)
children-sorted o t = strictly (label_key o t) (children o t) (in-order o t) (λ label. at-most-one (has_shown o t label) (times label (children o t)) (child-once o t label))

-- The sums of labels that are left out.
vm-sums : (t : Table) (left : List (List ℕ)) → sum_by (λ (e : Entry). e.vm) (map (label_entry t) left) ≡ sum_by (λ (s : Sizes). s.vm) (map (label_sizes t) left)
vm-sums t left = sum_by-map (λ (e : Entry). e.vm) (label_entry t) left ∙ sym (sum_by-map (λ (s : Sizes). s.vm) (label_sizes t) left)

file-sums : (t : Table) (left : List (List ℕ)) → sum_by (λ (e : Entry). e.file) (map (label_entry t) left) ≡ sum_by (λ (s : Sizes). s.file) (map (label_sizes t) left)
file-sums t left = sum_by-map (λ (e : Entry). e.file) (label_entry t) left ∙ sym (sum_by-map (λ (s : Sizes). s.file) (label_sizes t) left)

same-row : (level n m v w f g : ℕ) → n ≡ m → v ≡ w → f ≡ g
    → ◌≡◌ {A = Row} (record { level = level; kind = Others n; vm = v; file = f }) (record { level = level; kind = Others m; vm = w; file = g })
same-row level n m v w f g a b c = rw (a, b, c) refl

same-test : (o : RowOptions) (v w f g n : ℕ) → v ≡ w → f ≡ g → is_lt (nat_cmp (key_of o v f) n) ≡ nat_lt (key_of o w g) n
same-test o v w f g n a b = rw (a, b) (lt-is (key_of o w g) n)

size-rows : (o : RowOptions) (levels level : ℕ) (t : Table) → InReportOrder (size_report o) levels level (table_sizes t) (listing o levels level t)
unfolding rows_over
size-rows o zero level t = refl
size-rows o (suc levels) level t =
    let entry : List ℕ → Entry = label_entry t in
    let sizes : List ℕ → Sizes = label_sizes t in
    are-rows (size_report o) level sizes (λ l. InReportOrder (size_report o) levels (level + 1) (table_sizes (under l t))) (λ l. listing o levels (level + 1) (under l t)) (λ l. size-rows o levels (level + 1) (under l t))
    entry (by_key o) others_entry (λ (e : Entry). row_of level e ∷ listing o levels (level + 1) e.below) (λ l. refl)
    (λ left.
    ap (λ rows. row_of level (others_entry (map entry left)) ∷ rows) (listing-nil o levels (level + 1))
    ∙ ap (λ (r : Row). r ∷ [])
    (same-row level (length (map entry left)) (length (map sizes left)) (sum_by (λ (e : Entry). e.vm) (map entry left)) (sum_by (λ (s : Sizes). s.vm) (map sizes left)) (sum_by (λ (e : Entry). e.file) (map entry left)) (sum_by (λ (s : Sizes). s.file) (map sizes left))
    (length-map left entry ∙ sym (length-map left sizes)) (vm-sums t left) (file-sums t left)))
    (λ l left. same-test o (sum_by (λ (e : Entry). e.vm) (map entry left)) (sum_by (λ (s : Sizes). s.vm) (map sizes left)) (sum_by (λ (e : Entry). e.file) (map entry left)) (sum_by (λ (s : Sizes). s.file) (map sizes left)) (label_key o t l) (vm-sums t left) (file-sums t left))
    (children o t) (child-once o t) (children-sorted o t)

pub same-sizes : (v w f g : ℕ) → v ≡ w → f ≡ g → ◌≡◌ {A = Sizes} (record { vm = v; file = f }) (record { vm = w; file = g })
same-sizes v w f g a b = rw (a, b) refl

-- The rows of every report are in its order.
pub rows-in-order : RowsAreInOrder
rows-in-order o totals vm file are =
    let t : Table = totals.rows in
    let same : table_sizes t ≡ both_sizes vm file = fun_ext (λ path. same-sizes (vm_sum (under_path path t)) (vm path) (file_sum (under_path path t)) (file path) (are.vm_is path) (are.file_is path)) in
    record {
      levels = refl;
      vm_total = are.vm_is [];
      file_total = are.file_is [];
      rows = subst (λ (sizes : Path → Sizes). InReportOrder (size_report o) totals.depth 0 sizes (listing o totals.depth 0 t)) same (size-rows o totals.depth 0 t);
    }
