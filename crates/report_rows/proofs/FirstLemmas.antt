-- Groups that a limit keeps, if the others aren't sorted.
use Rattle.std.proofs.Common.{◌≡◌, ℕ, ◌<◌, List, [], ◌∷◌, ◌++◌, length, get_or, take, drop, map, sym, ap, ◌∙◌, subst, false, arith}
use Rattle.std.specs.Prelude.{All, filter}
use Rattle.std.specs.List.{sum_by}
use Rattle.std.specs.List.Sorted.{IsPermutation}
use Rattle.std.specs.declared.cmp.Ordering.{Ordering}
use Rattle.std.specs.Ordering.{is_lt, nat_cmp}
use Rattle.std.proofs.lemmas.List.{drop_at, length-append, length-map, map-append, take_at}
use Rattle.std.proofs.lemmas.List.Elements.{All-append, All-cons, All-head, All-map, All-tail}
use Rattle.std.proofs.lemmas.List.Sorted.{All-permutation, IsPermutation-map, length_permutation}
use Rattle.path_rows.specs.declared.row.RollupRow.{RollupRow}
use Rattle.report_rows.specs.declared.groups.Group.{Group}
use Rattle.report_rows.specs.declared.row.RowOptions.{RowOptions}
use Rattle.report_rows.specs.Groups.{AreFirst, IsGroup, IsPart, IsRange, group_entry, group_label, others_group, table_at}
use Rattle.report_rows.specs.Order.{in_order, placed}
use Rattle.report_rows.specs.Rows.{Entry, by_key, children, entries_of, has_shown, label_cmp, label_entry, others_entry}
use Rattle.report_rows.specs.Tables.{Table, first_labels}
use Rattle.report_rows.proofs.EntryLemmas.{groups-are, have-ranges, others-are, others-range, same-others}
use Rattle.report_rows.proofs.LimitLemmas.{map-placed, within-more}
use Rattle.report_rows.proofs.OrderLemmas.{All-placed, first-in-order, in_order-permutation, sum_by-in_order}
use Rattle.report_rows.proofs.SortLemmas.{label_is, label_total, order-step, sorted-labels}
use Rattle.report_rows.proofs.TableLemmas.{sum_by-map}

-- One entry for entries doesn't depend on their order.
others-in-order : (cmp : List ℕ → List ℕ → Ordering) (entry : List ℕ → Entry) (labels : List (List ℕ)) → others_entry (map entry (in_order cmp labels)) ≡ others_entry (map entry labels)
others-in-order cmp entry labels =
    let sums : (f : Entry → ℕ) → sum_by f (map entry (in_order cmp labels)) ≡ sum_by f (map entry labels) =
    λ f. sum_by-map f entry (in_order cmp labels) ∙ (sum_by-in_order cmp (λ l. f (entry l)) labels ∙ sym (sum_by-map f entry labels)) in
    same-others (length (map entry (in_order cmp labels))) (length (map entry labels)) (sum_by (λ (e : Entry). e.vm) (map entry (in_order cmp labels))) (sum_by (λ (e : Entry). e.vm) (map entry labels))
    (sum_by (λ (e : Entry). e.file) (map entry (in_order cmp labels))) (sum_by (λ (e : Entry). e.file) (map entry labels))
    (length-map (in_order cmp labels) entry ∙ (length_permutation labels (in_order cmp labels) (in_order-permutation cmp labels) ∙ sym (length-map labels entry))) (sums (λ e. e.vm)) (sums (λ e. e.file))

module _ (o : RowOptions) (depth level : ℕ) (all : List RollupRow) (part : IsPart depth level all) (below : level < depth) (groups : List Group) (every : All (IsGroup o level all) groups)
    (labels : map (group_label level all) groups ≡ filter (has_shown o (table_at level all)) (first_labels (table_at level all))) (made : List Group) (f : AreFirst o groups made) where
  abbrev table : Table
  table = table_at level all

  abbrev lab : Group → List ℕ
  lab = group_label level all

  abbrev R : List ℕ → List ℕ → Ordering
  R = label_cmp o table

  abbrev G : Group → Type 0
  G = IsGroup o level all

  abbrev first : List Group
  first = f.front ++ f.last ∷ []

  abbrev rest : List (List ℕ)
  rest = in_order R (map lab f.left)

  -- Each of the groups is one of the level.
  part-of : (xs ys : List Group) → All G (xs ++ ys) → All G xs × All G ys
  part-of [] ys h = ((λ k d lt. absurd (omega arith)), h)
  part-of (x ∷ xs) ys h = let more = part-of xs ys (All-tail G x (xs ++ ys) h) in (All-cons G x xs (All-head G x (xs ++ ys) h) more.0, more.1)

  moved : All G (f.front ++ f.last ∷ f.left)
  moved = All-permutation G groups (f.front ++ f.last ∷ f.left) f.same every

  of-front : All G f.front
  of-front = (part-of f.front (f.last ∷ f.left) moved).0

  of-last : G f.last
  of-last = All-head G f.last f.left (part-of f.front (f.last ∷ f.left) moved).1

  of-left : All G f.left
  of-left = All-tail G f.last f.left (part-of f.front (f.last ∷ f.left) moved).1

  of-first : All G first
  of-first = All-append G f.front (f.last ∷ []) of-front (All-cons G f.last [] of-last (λ k d lt. absurd (omega arith)))

  -- Their labels come first among the children.
  children-are : children o table ≡ map lab first ++ rest
  unfolding children
  children-are =
      let same : IsPermutation (map lab groups) (map lab f.front ++ lab f.last ∷ map lab f.left) =
      subst (IsPermutation (map lab groups)) (map-append lab f.front (f.last ∷ f.left)) (IsPermutation-map lab groups (f.front ++ f.last ∷ f.left) f.same) in
      ap (in_order R) (sym labels)
      ∙ (first-in-order R (label_total o table) (label_is o table) (map lab groups) (map lab f.front) (map lab f.left) (lab f.last) same
      (sorted-labels o depth level all part below f.front of-front f.ordered)
      (All-map (λ l. is_lt (R (lab f.last) l) ≡ false) lab f.front (λ k d lt. order-step o depth level all part below (get_or f.front k d) f.last (of-front k d lt) of-last (f.before k d lt)))
      (All-map (λ l. is_lt (R l (lab f.last)) ≡ false) lab f.left (λ k d lt. order-step o depth level all part below f.last (get_or f.left k d) of-last (of-left k d lt) (f.after k d lt)))
      ∙ ap (λ ls. ls ++ rest) (sym (map-append lab f.front (f.last ∷ []))))

  abbrev entry : Group → Entry
  entry = group_entry level all

  abbrev others : List Entry
  others = map (label_entry table) rest

  entries-are : map (label_entry table) (children o table) ≡ map entry first ++ others
  entries-are =
      ap (map (label_entry table)) children-are
      ∙ (map-append (label_entry table) (map lab first) rest ∙ ap (λ es. es ++ others) (sym (groups-are o depth level all part below first of-first)))

  long : length (map entry first) ≡ o.limit
  long = length-map first entry ∙ (length-append f.front (f.last ∷ []) ∙ f.count)

  others-long : length others ≡ length f.left
  others-long = length-map rest (label_entry table) ∙ (length_permutation (map lab f.left) rest (in_order-permutation R (map lab f.left)) ∙ length-map f.left lab)

  same-left : others_entry others ≡ others_entry (map entry f.left)
  same-left = others-in-order R (label_entry table) (map lab f.left) ∙ ap others_entry (sym (groups-are o depth level all part below f.left of-left))

  -- They represent the entries within the limit.
  pub first-entries : o.limit < length groups → map entry made ≡ entries_of o table
  first-entries more =
      let es = map (label_entry table) (children o table) in
      let x = others_group o f.left in
      let enough : o.limit < length es = omega (
        arith,
        ap length entries-are,
        length-append (map entry first) others,
        long,
        others-long,
        length_permutation groups (f.front ++ f.last ∷ f.left) f.same,
        length-append f.front (f.last ∷ f.left),
        f.count,
      ) in
      ap (map entry) f.are
      ∙ (map-placed (λ (g h : Group). nat_cmp h.key.0 g.key.0) (by_key o) entry x first (λ k d lt. ap (λ n. is_lt (nat_cmp x.key.0 n)) (of-first k d lt).key)
      ∙ (ap (λ e. placed (by_key o) e (map entry first)) (others-are o level all f.left ∙ sym same-left)
      ∙ (ap (λ e. placed (by_key o) e (map entry first)) (sym (ap others_entry (ap (drop o.limit) entries-are ∙ drop_at (map entry first) others o.limit long)))
      ∙ (ap (placed (by_key o) (others_entry (drop o.limit es))) (sym (ap (take o.limit) entries-are ∙ take_at (map entry first) others o.limit long))
      ∙ sym (within-more o.limit (by_key o) others_entry es (omega (arith, f.count)) enough)))))

  -- They have their rows.
  pub first-ranges : All (IsRange level all) made
  first-ranges =
      subst (All (IsRange level all)) (sym f.are)
      (All-placed (λ (g h : Group). nat_cmp h.key.0 g.key.0) (IsRange level all) (others_group o f.left) first (others-range o level all f.left) (have-ranges o depth level all part below first of-first))
