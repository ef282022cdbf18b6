-- The group whose first row has a label that no earlier row has.
use Rattle.std.proofs.Common.{◌≡◌, ◌≢◌, ℕ, ◌+◌, ◌-◌, ◌<◌, ◌≤◌, List, [], ◌∷◌, length, take, drop, get_or, map, refl, sym, ap, ◌∙◌, subst, arith, Bor, inl, inr}
use Rattle.std.specs.Prelude.{All}
use Rattle.std.specs.List.{sum_by}
use Rattle.std.proofs.lemmas.Bool.{cases_lt}
use Rattle.std.proofs.lemmas.List.{get_or-map, get_or-drop, length-map, length-drop, drop-map, take-map, take_rest}
use Rattle.std.proofs.lemmas.List.Sums.{sum_by-cons, sum_by-take-le, sum_by-take-drop}
use Rattle.path_rows.specs.declared.row.RollupRow.{RollupRow}
use Rattle.report_rows.specs.declared.row.RowKind.{RowKind}
use Rattle.report_rows.specs.declared.row.RowKind.TheVariants.{Label}
use Rattle.report_rows.specs.declared.groups.Group.{Group}
use Rattle.report_rows.specs.declared.groups.Kind.TheVariants as kinds
use Rattle.report_rows.specs.declared.row.RowOptions.{RowOptions}
use Rattle.report_rows.specs.Groups.{row_from, table_at, labels_at, IsPart, IsGroup, IsBorder}
use Rattle.report_rows.specs.Keys.{key_of}
use Rattle.report_rows.specs.Levels.{level_labels}
use Rattle.report_rows.specs.Tables.{Table, vm_sum, file_sum, under}
use Rattle.report_rows.specs.Rows.{Entry}
use Rattle.report_rows.proofs.AscendLemmas.{IsDeep, between}
use Rattle.report_rows.proofs.RowLemmas.{seen-labels}
use Rattle.report_rows.proofs.RunLemmas.{IsRun, mid, run-under}

-- The default group, for an index past the end.
abbrev pub any_group : Group
any_group = record { key = record { 0 = 0 }; from = 0; to = 0; kind = kinds.Label; vm = 0; file = 0 }

-- The rows that references refer to.
abbrev pub seen : List (Bor RollupRow) → List RollupRow
seen rows = map (λ (r : Bor RollupRow). r.now) rows

pub deep_of : (depth level : ℕ) (rows : List RollupRow) → IsPart depth level rows → level < depth → IsDeep level rows
deep_of depth level rows part lt k d inside = omega (arith, part.deep k d inside)

pub deep_rows : (depth level : ℕ) (rows : List (Bor RollupRow)) → IsPart depth level (seen rows) → level < depth → All (λ (r : Bor RollupRow). level < length r.now.path) rows
deep_rows depth level rows part lt k d inside =
    let e = get_or-map (λ (r : Bor RollupRow). r.now) rows k d d.now inside in
    let deep : level < length (get_or (seen rows) k d.now).path = deep_of depth level (seen rows) part lt k d.now (rw length-map inside) in
    rw e at deep

pub seen-rest : (rows : List (Bor RollupRow)) (from : ℕ) → seen (take (length rows - from) (drop from rows)) ≡ drop from (seen rows)
seen-rest rows from = ap seen (take_rest rows from) ∙ sym (drop-map (λ (r : Bor RollupRow). r.now) from rows)

pub seen-mid : (rows : List (Bor RollupRow)) (from n : ℕ) → seen (take n (drop from rows)) ≡ take n (drop from (seen rows))
seen-mid rows from n = sym (take-map (λ (r : Bor RollupRow). r.now) n (drop from rows)) ∙ ap (take n) (sym (drop-map (λ (r : Bor RollupRow). r.now) from rows))

-- A sum over a part is no more than the sum over all.
pub part-le : {X : Type 0} (f : X → ℕ) (xs : List X) (from n : ℕ) → sum_by f (take n (drop from xs)) ≤ sum_by f xs
part-le f xs from n = omega (arith, sum_by-take-le f (drop from xs) n, sum_by-take-drop f xs from)

pub sum-table : (size : RollupRow → ℕ) (same : (r : RollupRow) (p : List (List ℕ)) → size (record r { path = p }) ≡ size r) (level : ℕ) (rows : List RollupRow) → sum_by size (table_at level rows) ≡ sum_by size rows
sum-table size same level [] = refl
sum-table size same level (r ∷ rows) = omega (arith, sum_by-cons size (row_from level r) (table_at level rows), sum_by-cons size r rows, same r (drop level r.path), sum-table size same level rows)

module _ (depth level : ℕ) (all part : List RollupRow) (from n : ℕ) (is : IsPart depth level all) (below : level < depth) (border : IsBorder (labels_at level all) from)
    (e : part ≡ drop from all) (some : 0 < n) (within : n ≤ length part)
    (same : (k : ℕ) → k < n → get_or (labels_at level part) k [] ≡ get_or (labels_at level part) 0 [])
    (next : n < length part → get_or (labels_at level part) n [] ≢ get_or (labels_at level part) 0 []) where
  abbrev labels : List (List ℕ)
  labels = labels_at level all

  shift : (k : ℕ) → get_or (labels_at level part) k [] ≡ get_or labels (from + k) []
  shift k = ap (λ xs. get_or (labels_at level xs) k []) e ∙ (ap (λ xs. get_or xs k []) (sym (drop-map (λ (r : RollupRow). get_or r.path level []) from all)) ∙ get_or-drop from labels k [])

  long : length part ≡ length all - from
  long = ap length e ∙ length-drop from all

  as-first : (k : ℕ) → from ≤ k → k < from + n → get_or labels k [] ≡ get_or labels from []
  as-first k low high =
      let s : from + (k - from) ≡ k = omega arith in
      let z : from + 0 ≡ from = omega arith in
      ap (λ j. get_or labels j []) (sym s) ∙ (sym (shift (k - from)) ∙ (same (k - from) (omega arith) ∙ (shift 0 ∙ ap (λ j. get_or labels j []) z)))

  pub run-same : (k : ℕ) → from ≤ k → k < from + n → get_or labels k [] ≡ get_or labels from []
  run-same = as-first

  beyond : (j : ℕ) → from + n ≤ j → j < length all → get_or labels j [] ≡ get_or labels from [] → get_or labels (from + n) [] ≡ get_or labels from []
  beyond j low high h = between level all from (from + n) j is.ordered (deep_of depth level all is below) (omega arith) low high (sym h)

  after-first : (j : ℕ) → from + n ≤ j → j < length all → get_or labels j [] ≢ get_or labels from []
  after-first j low high = λ h.
      let z : from + 0 ≡ from = omega arith in
      next (omega (arith, long)) (shift n ∙ (beyond j low high h ∙ sym (shift 0 ∙ ap (λ i. get_or labels i []) z)))

  in-all : from < length all
  in-all = omega (arith, long)

  labels-long : length labels ≡ length all
  labels-long = length-map all (λ (r : RollupRow). get_or r.path level [])

  pub is-run : IsRun level all (get_or labels from []) from (from + n)
  is-run = record {
    deep = deep_of depth level all is below;
    some = omega arith;
    within = omega (arith, long, in-all);
    same = as-first;
    before = λ k lt. border k from lt (omega arith) (omega (arith, in-all, labels-long));
    after = after-first;
  }

  pub next-border : IsBorder labels (from + n)
  next-border i j lt low high = λ h. elim (cases_lt i from) [
    | inl before ↦ border i j before (omega arith) high h
    | inr inside ↦ after-first j low (omega (arith, labels-long)) (sym h ∙ as-first i inside lt)
  ]

abbrev rest : List (Bor RollupRow) → ℕ → List (Bor RollupRow)
rest rows from = take (length rows - from) (drop from rows)

abbrev of-row : Bor RollupRow → List (List ℕ)
of-row r = r.now.path

-- What the rows at the front of a part say about all rows.
pub record Found (level : ℕ) (all : List RollupRow) (from n : ℕ) : Type 0 where
  pub run : IsRun level all (get_or (labels_at level all) from []) from (from + n)
  pub border : IsBorder (labels_at level all) (from + n)
  pub same : (k : ℕ) → from ≤ k → k < from + n → get_or (labels_at level all) k [] ≡ get_or (labels_at level all) from []

pub found : (depth level : ℕ) (rows : List (Bor RollupRow)) (from n : ℕ) → IsPart depth level (seen rows) → level < depth → IsBorder (labels_at level (seen rows)) from
    → 0 < n → n ≤ length (rest rows from)
    → ((k : ℕ) → k < n → get_or (level_labels of-row level (rest rows from)) k [] ≡ get_or (level_labels of-row level (rest rows from)) 0 [])
    → (n < length (rest rows from) → get_or (level_labels of-row level (rest rows from)) n [] ≢ get_or (level_labels of-row level (rest rows from)) 0 [])
    → Found level (seen rows) from n
found depth level rows from n is below border some within alike other =
    let part = seen (rest rows from) in
    let labels = sym (seen-labels level (rest rows from)) in
    let same = subst (λ (ls : List (List ℕ)). (k : ℕ) → k < n → get_or ls k [] ≡ get_or ls 0 []) labels alike in
    let next = subst (λ (ls : List (List ℕ)). n < length (rest rows from) → get_or ls n [] ≢ get_or ls 0 []) labels other in
    let e = seen-rest rows from in
    let long : length part ≡ length (rest rows from) = length-map (rest rows from) (λ (r : Bor RollupRow). r.now) in
    let inside : n ≤ length part = omega arith in
    let apart = λ (lt : n < length part). next (omega arith) in
    record {
      run = is-run depth level (seen rows) part from n is below border e some inside same apart;
      border = next-border depth level (seen rows) part from n is below border e some inside same apart;
      same = run-same depth level (seen rows) part from n is below border e some inside same apart;
    }

same-entry : (k : RowKind) (v w f g : ℕ) (s t : Table) → v ≡ w → f ≡ g → s ≡ t → ◌≡◌ {A = Entry} (record { kind = k; vm = v; file = f; below = s }) (record { kind = k; vm = w; file = g; below = t })
same-entry k v w f g s t a b e = rw (a, b, e) refl

-- The group of a run represents the entry of its label.
pub run-group : (o : RowOptions) (level : ℕ) (all : List RollupRow) (from to key vm file : ℕ) → IsRun level all (get_or (labels_at level all) from []) from to
    → key ≡ key_of o vm file → vm ≡ vm_sum (mid from to all) → file ≡ file_sum (mid from to all)
    → IsGroup o level all (record { key = record { 0 = key }; from = from; to = to; kind = kinds.Label; vm = vm; file = file })
run-group o level all from to key vm file run k v f =
    let l = get_or (labels_at level all) from [] in
    let under-is = run-under level all l from to run in
    let table = table_at (level + 1) (mid from to all) in
    record {
      some = run.some;
      within = run.within;
      key = k;
      entry = same-entry (Label l) vm (vm_sum (under l (table_at level all))) file (file_sum (under l (table_at level all))) table (under l (table_at level all))
          (v ∙ (sym (sum-table (λ (r : RollupRow). r.vm) (λ r p. refl) (level + 1) (mid from to all)) ∙ ap vm_sum (sym under-is)))
          (f ∙ (sym (sum-table (λ (r : RollupRow). r.file) (λ r p. refl) (level + 1) (mid from to all)) ∙ ap file_sum (sym under-is)))
          (sym under-is);
    }
