-- The rows of a rollup as a table.
use Rattle.std.proofs.Common.{◌≡◌, ℕ, ◌+◌, ◌-◌, ◌<◌, List, [], ◌∷◌, ◌++◌, length, take, Some, refl, sym, ap, ◌∙◌, subst, arith, Bor}
use Rattle.std.specs.Prelude.{slice_get}
use Rattle.std.specs.List.Sorted.{IsStrictlySortedBy}
use Rattle.std.proofs.lemmas.List.{map_push, take_more}
use Rattle.std.proofs.lemmas.Option.{get_or_from_slice_get}
use Rattle.path_rows.specs.Paths.{row_cmp}
use Rattle.rollup.specs.Totals.{IsTotals}
use Rattle.path_rows.specs.declared.row.RollupRow.{RollupRow}
use Rattle.report_rows.specs.declared.row.RowOptions.{RowOptions}
use Rattle.report_rows.specs.declared.row.Row.{Row}
use Rattle.report_rows.specs.declared.row.RowTree.{RowTree}
use Rattle.report_rows.specs.Groups.{table_at, IsPart}
use Rattle.report_rows.specs.Rows.{listing}
use Rattle.report_rows.specs.Tables.{Table}
use Rattle.report_rows.proofs.GroupLemmas.{seen}

-- From the first label on, a table is itself.
pub whole_table : (rows : List RollupRow) → table_at 0 rows ≡ rows
whole_table [] = refl
whole_table (r ∷ rows) = ap (λ t. r ∷ t) (whole_table rows)

pub is_part : (depth lengths mapped : ℕ) (rows all : List RollupRow) → IsTotals depth rows lengths mapped → all ≡ rows → IsPart depth 0 all
is_part depth lengths mapped rows all totals e = subst (IsPart depth 0) (sym e) (record {
  ordered = subst (IsStrictlySortedBy row_cmp) (sym (whole_table rows)) totals.ordered;
  deep = totals.deep;
  vm_fits = omega (arith, totals.vm, totals.mapped_fit);
  file_fits = omega (arith, totals.file, totals.lengths_fit);
})

-- The rows up to one more.
pub rows_more : (rows : List RollupRow) (old new : List (Bor RollupRow)) (i : ℕ) (r : Bor RollupRow) → i < length rows → seen old ≡ take i rows → new ≡ old ++ r ∷ [] → slice_get rows i ≡ Some r.now
    → seen new ≡ take (i + 1) rows
rows_more rows old new i r lt so-far push at =
    ap seen push ∙ (map_push (λ (r : Bor RollupRow). r.now) old r
    ∙ (ap (λ xs. xs ++ r.now ∷ []) so-far ∙ (ap (λ x. take i rows ++ x ∷ []) (sym (get_or_from_slice_get rows i r.now r.now at)) ∙ sym (take_more rows i r.now lt))))

-- A tree by its parts.
pub same_tree : (o : RowOptions) (depth vm file v f : ℕ) (rows : List Row) (out : List Row) (all : Table) → vm ≡ v → file ≡ f → out ≡ [] → rows ≡ out ++ listing o (depth - 0) 0 (table_at 0 all)
    → ◌≡◌ {A = RowTree} (record { depth = depth; vm = vm; file = file; rows = rows }) (record { depth = depth; vm = v; file = f; rows = listing o depth 0 all })
same_tree o depth vm file v f rows out all a b none made =
    let n : depth - 0 ≡ depth = omega arith in
    let e : rows ≡ listing o depth 0 all = made ∙ (ap (λ xs. xs ++ listing o (depth - 0) 0 (table_at 0 all)) none ∙ (ap (λ t. listing o (depth - 0) 0 t) (whole_table all) ∙ ap (λ k. listing o k 0 all) n)) in
    rw (a, b, e) refl
