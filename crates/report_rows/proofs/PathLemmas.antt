-- The rows of a report show the paths of its table.
use Rattle.std.proofs.Common.{◌≡◌, ℕ, zero, suc, ◌+◌, ◌<◌, ◌≤◌, ◌==◌, ◌||◌, List, [], ◌∷◌, ◌++◌, length, take, drop, map, refl, sym, ap, ◌∙◌, subst, Bool, true, false, cond, leb, arith}
use Rattle.std.specs.Prelude.{All, filter, nat_lt}
use Rattle.std.specs.List.{sum_by, flat_map}
use Rattle.std.specs.Str.{bytes_eq}
use Rattle.std.proofs.lemmas.Grind.{common_steps}
use Rattle.std.proofs.lemmas.List.{append-nil, append_assoc, drop-map, length-append, length-drop, length-map, take-append-le, take-map, take_all}
use Rattle.std.proofs.lemmas.List.Elements.{All-head, All-map, All-tail}
use Rattle.std.proofs.lemmas.List.Sums.{sum_by-cons, sum_by-take-drop}
use Rattle.report_rows.specs.declared.row.RowKind.TheVariants.{Label}
use Rattle.report_rows.specs.declared.row.RowOptions.{RowOptions}
use Rattle.report_rows.specs.declared.row.Row.{Row}
use Rattle.report_rows.specs.Keys.{is_shown}
use Rattle.report_rows.specs.Shown.{shown, shows_file, shows_vm}
use Rattle.report_rows.specs.Levels.{rows_over}
use Rattle.report_rows.specs.Order.{placed, within}
use Rattle.report_rows.specs.Tables.{Table, file_sum, first_labels, under, under_path, vm_sum}
use Rattle.report_rows.specs.Trees.{level_sum}
use Rattle.report_rows.specs.Rows.{Entry, by_key, children, entries_of, has_shown, label_cmp, label_entry, limited, listing, others_entry, row_of}
use Rattle.report_rows.specs.Paths.{AreSizesBelow, Path, RowsShowPaths, ShowRows, ShowsLabel, ShowsLevel, labels_taken, row_of_label, row_of_others, size_taken, times}
use Rattle.report_rows.proofs.LevelLemmas.{Stops, level-sum, stops-later}
use Rattle.report_rows.proofs.LimitLemmas.{All-within}
use Rattle.report_rows.proofs.OrderLemmas.{sum_by-in_order, sum_by-placed}
use Rattle.report_rows.proofs.TableLemmas.{absent, has, once, same_bytes, sum-zero, sum_by-map, sum_by-same}
use Rattle.report_rows.proofs.TreeLemmas.{listing-nil}

-- Paths and their tables.

under-more : (path : Path) (label : List ℕ) (t : Table) → under_path (path ++ label ∷ []) t ≡ under label (under_path path t)
under-more [] label t = refl
under-more (l ∷ path) label t = under-more path label (under l t)

-- Labels.

one-at : (label l : List ℕ) (p : List ℕ → Bool) (b : Bool) (n m : ℕ) → bytes_eq l label ≡ b → p l ≡ true → n ≡ cond (p label) m 0
    → cond b 1 0 + n ≡ cond (p label) (cond b 1 0 + m) 0
one-at label l p true n m same is e = let at : p label ≡ true = rw (same_bytes l label same) at is in rw at (omega (arith, rw at at e))
one-at label l p false n m other is e = at (p label) e
  where
    at : (c : Bool) → n ≡ cond c m 0 → 0 + n ≡ cond c (0 + m) 0
    at true e = omega (arith, e)
    at false e = omega (arith, e)

none-at : (label l : List ℕ) (p : List ℕ → Bool) (b : Bool) (n m : ℕ) → bytes_eq l label ≡ b → p l ≡ false → n ≡ cond (p label) m 0
    → n ≡ cond (p label) (cond b 1 0 + m) 0
none-at label l p true n m same isnt e = let at : p label ≡ false = rw (same_bytes l label same) at isnt in rw at (rw at at e)
none-at label l p false n m other isnt e = at (p label) e
  where
    at : (c : Bool) → n ≡ cond c m 0 → n ≡ cond c (0 + m) 0
    at true e = omega (arith, e)
    at false e = e

abbrev hit : List ℕ → List ℕ → ℕ
hit label l = cond (bytes_eq l label) 1 0

-- A label that passes a test is as often among those that pass it.
pub times-filter : (label : List ℕ) (p : List ℕ → Bool) (labels : List (List ℕ)) → times label (filter p labels) ≡ cond (p label) (times label labels) 0
times-filter label p [] = none (p label)
  where
    none : (b : Bool) → ◌≡◌ {A = ℕ} 0 (cond b 0 0)
    none true = refl
    none false = refl
times-filter label p (l ∷ labels) = at (p l) refl (times-filter label p labels)
  where
    at : (b : Bool) → p l ≡ b → times label (filter p labels) ≡ cond (p label) (times label labels) 0
        → times label (cond b (l ∷ filter p labels) (filter p labels)) ≡ cond (p label) (times label (l ∷ labels)) 0
    at true is rest =
        sum_by-cons (hit label) l (filter p labels)
        ∙ (one-at label l p (bytes_eq l label) (times label (filter p labels)) (times label labels) refl is rest ∙ ap (λ n. cond (p label) n 0) (sym (sum_by-cons (hit label) l labels)))
    at false isnt rest =
        none-at label l p (bytes_eq l label) (times label (filter p labels)) (times label labels) refl isnt rest ∙ ap (λ n. cond (p label) n 0) (sym (sum_by-cons (hit label) l labels))

pub nothing-shown : (a b : Bool) → (nat_lt 0 (shown a 0) || nat_lt 0 (shown b 0)) ≡ false
nothing-shown true true = refl
nothing-shown true false = refl
nothing-shown false true = refl
nothing-shown false false = refl

-- Each label with a shown size is a child once, and no other label is.
pub child-once : (o : RowOptions) (t : Table) (label : List ℕ) → times label (children o t) ≡ cond (has_shown o t label) 1 0
unfolding children
child-once o t label =
    sum_by-in_order (label_cmp o t) (λ l. cond (bytes_eq l label) 1 0) (filter (has_shown o t) (first_labels t))
    ∙ (times-filter label (has_shown o t) (first_labels t) ∙ (ap (λ n. cond (has_shown o t label) n 0) (once 1 label t) ∙ at (has (first_labels t) label) refl))
  where
    at : (b : Bool) → has (first_labels t) label ≡ b → ◌≡◌ {A = ℕ} (cond (has_shown o t label) (cond b 1 0) 0) (cond (has_shown o t label) 1 0)
    at true h = refl
    at false h =
        let empty : under label t ≡ [] = absent label t h in
        let unshown : has_shown o t label ≡ false = ap (λ u. is_shown o (vm_sum u) (file_sum u)) empty ∙ nothing-shown (shows_vm o.domain) (shows_file o.domain) in
        rw unshown refl

-- The entries of a level.

abbrev once-if : Bool → ℕ
once-if b = cond b 1 0

-- Whether no label is left out, and which are.
abbrev fits : RowOptions → List (List ℕ) → Bool
fits o labels = (o.limit == 0) || leb (length labels) o.limit

abbrev left-out : RowOptions → List (List ℕ) → List (List ℕ)
left-out o labels = cond (fits o labels) [] (drop o.limit labels)

some-left : (labels : List (List ℕ)) (n : ℕ) → ((n == 0) || leb (length labels) n) ≡ false → (length (drop n labels) == 0) ≡ false
some-left labels n more = above (length (drop n labels)) (omega (arith, length-drop n labels, later (n == 0) (leb (length labels) n) refl more))
  where
    later : (a b : Bool) → leb (length labels) n ≡ b → (a || b) ≡ false → n < length labels
    later true b e h = cc h
    later false true e h = cc h
    later false false e h = grind (arith, common_steps)

    above : (m : ℕ) → 0 < m → (m == 0) ≡ false
    above m lt = grind (arith, common_steps)

-- A size of entries that is a size of labels, and of the labels that are left out.
module _ (o : RowOptions) (t : Table) (labels : List (List ℕ)) where
  abbrev dropped : List (List ℕ)
  dropped = drop o.limit labels

  -- The sum over the entries, and over the labels that have no entry of their own.
  sum-limited : (f : Entry → ℕ) (g : List ℕ → ℕ) (h : List (List ℕ) → ℕ) → ((l : List ℕ) → f (label_entry t l) ≡ g l) → h [] ≡ 0
      → (fits o labels ≡ false → f (others_entry (map (label_entry t) dropped)) ≡ h dropped)
      → sum_by f (limited o (map (label_entry t) labels)) + sum_by g (left-out o labels) ≡ sum_by g labels + h (left-out o labels)
  unfolding within
  sum-limited f g h is none others =
      let size : length (map (label_entry t) labels) ≡ length labels = length-map labels (label_entry t) in
      rw size (at (fits o labels) refl)
    where
      of-labels : (ls : List (List ℕ)) → sum_by f (map (label_entry t) ls) ≡ sum_by g ls
      of-labels ls = sum_by-map f (label_entry t) ls ∙ sum_by-same (λ l. f (label_entry t l)) g ls is

      at : (b : Bool) → fits o labels ≡ b → sum_by f (cond b (map (label_entry t) labels) (placed (by_key o) (others_entry (drop o.limit (map (label_entry t) labels))) (take o.limit (map (label_entry t) labels))))
          + sum_by g (cond b [] dropped) ≡ sum_by g labels + h (cond b [] dropped)
      at true fit = omega (arith, of-labels labels, none)
      at false more =
          let back : drop o.limit (map (label_entry t) labels) ≡ map (label_entry t) dropped = drop-map (label_entry t) o.limit labels in
          let front : take o.limit (map (label_entry t) labels) ≡ map (label_entry t) (take o.limit labels) = take-map (label_entry t) o.limit labels in
          rw (back, front)
          (omega (arith, sum_by-placed (by_key o) f (others_entry (map (label_entry t) dropped)) (map (label_entry t) (take o.limit labels)), others more, of-labels (take o.limit labels), sum_by-take-drop g labels o.limit))

  -- The same for a size that the rows of labels lack.
  sum-taken : (f : Entry → ℕ) (h : List (List ℕ) → ℕ) → ((l : List ℕ) → f (label_entry t l) ≡ 0) → h [] ≡ 0
      → (fits o labels ≡ false → f (others_entry (map (label_entry t) dropped)) ≡ h dropped) → sum_by f (limited o (map (label_entry t) labels)) ≡ h (left-out o labels)
  sum-taken f h is none others = omega (arith, sum-limited f (λ l. 0) h is none others, sum-zero labels, sum-zero (left-out o labels))

abbrev level-of : Row → ℕ
level-of r = r.level

take-less : (m n : ℕ) (path : Path) → m ≤ n → take m (take n path) ≡ take m path
take-less zero n [] le = refl
take-less zero zero (l ∷ path) le = refl
take-less zero (suc n) (l ∷ path) le = refl
take-less (suc m) zero path le = absurd (omega arith)
take-less (suc m) (suc n) [] le = refl
take-less (suc m) (suc n) (l ∷ path) le = ap (λ p. l ∷ p) (take-less m n path (omega arith))

module _ (o : RowOptions) (vm file : Path → ℕ) (t : Table) (are : AreSizesBelow vm file t) where
  vm-at : (path : Path) (l : List ℕ) → vm_sum (under l (under_path path t)) ≡ vm (path ++ l ∷ [])
  vm-at path l = ap vm_sum (sym (under-more path l t)) ∙ are.vm_is (path ++ l ∷ [])

  file-at : (path : Path) (l : List ℕ) → file_sum (under l (under_path path t)) ≡ file (path ++ l ∷ [])
  file-at path l = ap file_sum (sym (under-more path l t)) ∙ are.file_is (path ++ l ∷ [])

  -- A level shows the labels under a path.
  shows-level : (n level : ℕ) (path : Path) (after : List Row) → Stops level-of level after → ShowsLevel o vm file path level (listing o (suc n) level (under_path path t) ++ after)
  shows-level n level path after stops =
      let u : Table = under_path path t in
      let labels : List (List ℕ) = children o u in
      let level-is : (size : Row → ℕ) → level_sum size level (listing o (suc n) level u ++ after) ≡ sum_by (λ e. size (row_of level e)) (entries_of o u) =
      (λ size. level-sum (entries_of o) (λ (e : Entry). e.below) (row_of 0) size n level u after stops) in
      record {
        left = left-out o labels;
        each = λ label.
            let part = sum-limited o u labels (λ e. row_of_label label e.kind) (λ l. cond (bytes_eq l label) 1 0) (λ ls. 0) (λ l. refl) refl (λ more. refl) in
            let shown : once-if (has_shown o u label) ≡ once-if (is_shown o (vm (path ++ label ∷ [])) (file (path ++ label ∷ []))) =
            ap (λ v. once-if (is_shown o v (file_sum (under label u)))) (vm-at path label) ∙ ap (λ f. once-if (is_shown o (vm (path ++ label ∷ [])) f)) (file-at path label) in
            omega (arith, level-is (λ r. row_of_label label r.kind), part, child-once o u label, shown);
        one = level-is (λ r. row_of_others r.kind)
            ∙ sum-taken o u labels (λ e. row_of_others e.kind) (λ ls. cond (length ls == 0) 0 1) (λ l. refl) refl (λ more. let some : (length (drop o.limit labels) == 0) ≡ false = some-left labels o.limit more in rw some refl);
        count = level-is (λ r. labels_taken r.kind)
            ∙ sum-taken o u labels (λ e. labels_taken e.kind) length (λ l. refl) refl (λ more. length-map (drop o.limit labels) (label_entry u));
        vm_sums = level-is (λ r. size_taken r.kind r.vm)
            ∙ sum-taken o u labels (λ e. size_taken e.kind e.vm) (λ ls. sum_by (λ l. vm (path ++ l ∷ [])) ls) (λ l. refl) refl
            (λ more. sum_by-map (λ (e : Entry). e.vm) (label_entry u) (drop o.limit labels) ∙ sum_by-same (λ l. vm_sum (under l u)) (λ l. vm (path ++ l ∷ [])) (drop o.limit labels) (vm-at path));
        file_sums = level-is (λ r. size_taken r.kind r.file)
            ∙ sum-taken o u labels (λ e. size_taken e.kind e.file) (λ ls. sum_by (λ l. file (path ++ l ∷ [])) ls) (λ l. refl) refl
            (λ more. sum_by-map (λ (e : Entry). e.file) (label_entry u) (drop o.limit labels) ∙ sum_by-same (λ l. file_sum (under l u)) (λ l. file (path ++ l ∷ [])) (drop o.limit labels) (file-at path));
      }

  -- What an entry of a table represents.
  data IsEntry (u : Table) (e : Entry) : Type 0 where
    of_label : (l : List ℕ) → e ≡ label_entry u l → IsEntry u e
    of_others : (left : List Entry) → e ≡ others_entry left → IsEntry u e

  entries-are : (u : Table) → All (IsEntry u) (entries_of o u)
  entries-are u = All-within o.limit (by_key o) others_entry (IsEntry u) (map (label_entry u) (children o u)) (All-map (IsEntry u) (label_entry u) (children o u) (λ k d lt. of_label _ refl)) (of_others _ refl)

  module _ (depth : ℕ) where
    -- Rows that may follow any row under a path.
    Go : ℕ → Path → List Row → Type 0
    Go level path rows = (before : Path) → take level before ≡ path → ShowRows o vm file depth before rows

    -- The rows of a level under a path may, if those that follow them may.
    Lists : ℕ → ℕ → Type 0
    Lists n level = (path : Path) (after : List Row) → length path ≡ level → Stops level-of (level + 1) after → Go level path after → Go level path (listing o n level (under_path path t) ++ after)

    below-label : (n level : ℕ) (path : Path) (rest : List Row) → depth ≡ level + suc n → Stops level-of (level + 1) rest → level + 1 < depth → ShowsLevel o vm file path (level + 1) (listing o n (level + 1) (under_path path t) ++ rest)
    below-label zero level path rest d stops lt = absurd (omega arith)
    below-label (suc n) level path rest d stops lt = shows-level n (level + 1) path rest stops

    show-label : (n level : ℕ) (path : Path) (l : List ℕ) (rest : List Row) → length path ≡ level → depth ≡ level + suc n → Lists n (level + 1) → Stops level-of (level + 1) rest → Go level path rest
        → Go level path (row_of level (label_entry (under_path path t) l) ∷ (listing o n (level + 1) (under l (under_path path t)) ++ rest))
    unfolding Go Lists
    show-label n level path l rest len d lists stops go before is =
        let full : Path = path ++ l ∷ [] in
        let long : length full ≡ level + 1 = omega (arith, length-append path (l ∷ []), len) in
        let same : under l (under_path path t) ≡ under_path full t = sym (under-more path l t) in
        let front : take level full ≡ path = take-append-le level path (l ∷ []) (omega (arith, len)) ∙ take_all level path (omega (arith, len)) in
        let rows : List Row = listing o n (level + 1) (under_path full t) ++ rest in
        let more : Go (level + 1) full rest = (λ b at. go b (sym (take-less level (level + 1) b (omega arith)) ∙ (ap (take level) at ∙ front))) in
        let later : ShowRows o vm file depth full rows = lists full rest long (stops-later level-of (level + 1) (level + 1 + 1) rest (omega arith) stops) more full (take_all (level + 1) full (omega (arith, long))) in
        let row : Row = record { level = level; kind = Label l; vm = vm_sum (under_path full t); file = file_sum (under_path full t) } in
        let here : ShowsLabel o vm file depth full row rows = record { vm_is = are.vm_is full; file_is = are.file_is full; below = below-label n level full rest d stops } in
        rw (is, same) (here, later)

    show-others : (n level : ℕ) (path : Path) (left : List Entry) (rest : List Row) → Go level path rest → Go level path (row_of level (others_entry left) ∷ (listing o n (level + 1) [] ++ rest))
    unfolding Go
    show-others n level path left rest go before is =
        rw listing-nil (tt, go (take level before) (take-less level level before (omega arith) ∙ is))

    show-entry : (n level : ℕ) (path : Path) (e : Entry) (rest : List Row) → length path ≡ level → depth ≡ level + suc n → Lists n (level + 1) → Stops level-of (level + 1) rest → Go level path rest
        → IsEntry (under_path path t) e → Go level path (row_of level e ∷ (listing o n (level + 1) e.below ++ rest))
    show-entry n level path e rest len d lists stops go (of_label l same) =
        subst (λ (e : Entry). Go level path (row_of level e ∷ (listing o n (level + 1) e.below ++ rest))) (sym same) (show-label n level path l rest len d lists stops go)
    show-entry n level path e rest len d lists stops go (of_others left same) =
        subst (λ (e : Entry). Go level path (row_of level e ∷ (listing o n (level + 1) e.below ++ rest))) (sym same) (show-others n level path left rest go)

    show-entries : (n level : ℕ) (path : Path) (after : List Row) → length path ≡ level → depth ≡ level + suc n → Lists n (level + 1) → Stops level-of (level + 1) after → Go level path after
        → (es : List Entry) → All (IsEntry (under_path path t)) es → Go level path (flat_map (λ (e : Entry). row_of level e ∷ listing o n (level + 1) e.below) es ++ after)
    show-entries n level path after len d lists stops go [] all = go
    show-entries n level path after len d lists stops go (e ∷ es) all =
        let f : Entry → List Row = λ e. row_of level e ∷ listing o n (level + 1) e.below in
        let q : flat_map f (e ∷ es) ++ after ≡ row_of level e ∷ (listing o n (level + 1) e.below ++ (flat_map f es ++ after)) = ap (λ xs. row_of level e ∷ xs) (append_assoc (listing o n (level + 1) e.below) (flat_map f es) after) in
        let P : Entry → Type 0 = IsEntry (under_path path t) in
        let rest : Go level path (flat_map f es ++ after) = show-entries n level path after len d lists stops go es (All-tail P e es all) in
        subst (Go level path) (sym q) (show-entry n level path e (flat_map f es ++ after) len d lists (next es) rest (All-head P e es all))
      where
        next : (es : List Entry) → Stops level-of (level + 1) (flat_map (λ (e : Entry). row_of level e ∷ listing o n (level + 1) e.below) es ++ after)
        next [] = stops
        next (e ∷ es) = omega arith

    show-listing : (n level : ℕ) → depth ≡ level + n → Lists n level
    unfolding rows_over Lists
    show-listing zero level d path after len stops go = go
    show-listing (suc n) level d path after len stops go =
        show-entries n level path after len d (show-listing n (level + 1) (omega (arith, d))) stops go (entries_of o (under_path path t)) (entries-are (under_path path t))

pub shows-paths : RowsShowPaths
unfolding Go Lists
shows-paths o depth t vm file are = record {
  first = first depth;
  each = subst (ShowRows o vm file depth []) (append-nil (listing o depth 0 t)) (show-listing o vm file t are depth depth 0 (omega arith) [] [] refl tt (λ before is. tt) [] refl);
}
  where
    first : (d : ℕ) → 0 < d → ShowsLevel o vm file [] 0 (listing o d 0 t)
    first zero lt = absurd (omega arith)
    first (suc n) lt = subst (ShowsLevel o vm file [] 0) (append-nil (listing o (suc n) 0 t)) (shows-level o vm file t are n 0 [] [] tt)
