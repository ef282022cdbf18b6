-- Rows of levels: what holds of each with the rows after it, their tree, and the sums of a level.
use Rattle.std.proofs.Common.{◌≡◌, ℕ, zero, suc, ◌+◌, ◌-◌, ◌<◌, ◌≤◌, ◌==◌, ◌||◌, List, [], ◌∷◌, ◌++◌, length, take, get_or, map, refl, sym, ap, ◌∙◌, subst, zero-add, Bool, true, false, not, le-ltb, lt-ltb, eq-eqb, ne_eqb, arith}
use Rattle.std.specs.Prelude.{⊤, All, nat_lt}
use Rattle.std.specs.List.{sum_by, flat_map}
use Rattle.std.proofs.Math.Bool.{or-true, or-false}
use Rattle.std.proofs.lemmas.Grind.{common_steps}
use Rattle.std.proofs.lemmas.List.{append-nil, append_assoc, map-append, flat_map_more, map_more}
use Rattle.std.proofs.lemmas.List.Elements.{All-head, All-tail}
use Rattle.std.proofs.lemmas.List.Sums.{sum_by-cons}
use Rattle.report_rows.specs.declared.row.Row.{Row}
use Rattle.report_rows.specs.Levels.{EachRow, rows_over}
use Rattle.report_rows.specs.Trees.{has_children, is_others, AreLevels, level_sum}

-- Rows go on at a lesser level, or end.
abbrev pub Stops : {R : Type 0} → (R → ℕ) → ℕ → List R → Type 0
Stops at level [] = ⊤
Stops at level (r ∷ rows) = at r < level

pub stops-later : {R : Type 0} (at : R → ℕ) (low high : ℕ) (rows : List R) → low ≤ high → Stops at low rows → Stops at high rows
stops-later at low high [] le stops = tt
stops-later at low high (r ∷ rows) le stops = omega (arith, stops)

-- Rows seen through a function are rows over the same entries.
module _ {T E R S : Type 0} (entries : T → List E) (below : E → T) (row : ℕ → E → R) (side : R → S) where
  map-blocks : (n level : ℕ) → ((t : T) → map side (rows_over entries below row n (level + 1) t) ≡ rows_over entries below (λ l e. side (row l e)) n (level + 1) t)
      → (es : List E) → map side (flat_map (λ (e : E). row level e ∷ rows_over entries below row n (level + 1) (below e)) es)
      ≡ flat_map (λ (e : E). side (row level e) ∷ rows_over entries below (λ l e. side (row l e)) n (level + 1) (below e)) es
  map-blocks n level each [] = refl
  map-blocks n level each (e ∷ es) =
      let f : E → List R = λ e. row level e ∷ rows_over entries below row n (level + 1) (below e) in
      let below-is = each (below e) in
      let rest = map-blocks n level each es in
      ap (λ rows. side (row level e) ∷ rows) (map-append side (rows_over entries below row n (level + 1) (below e)) (flat_map f es) ∙ rw (below-is, rest) refl)

  pub map-rows : (n level : ℕ) (t : T) → map side (rows_over entries below row n level t) ≡ rows_over entries below (λ l e. side (row l e)) n level t
  unfolding rows_over
  map-rows zero level t = refl
  map-rows (suc n) level t = map-blocks n level (map-rows n (level + 1)) (entries t)

-- How the rows of a level are listed.
module _ {T E R : Type 0} (entries : T → List E) (below : E → T) (row : ℕ → E → R) where
  -- A row and the rows below it.
  abbrev pub block : ℕ → ℕ → E → List R
  block depth level e = row level e ∷ rows_over entries below row (depth - (level + 1)) (level + 1) (below e)

  pub rows-none : (depth level : ℕ) (t : T) (out : List R) → depth ≤ level → out ≡ out ++ rows_over entries below row (depth - level) level t
  unfolding rows_over
  rows-none depth level t out le = let k : depth - level ≡ 0 = omega arith in rw k (sym (append-nil out))

  pub rows-more : (depth level : ℕ) (t : T) → level < depth → rows_over entries below row (depth - level) level t ≡ flat_map (block depth level) (entries t)
  unfolding rows_over
  rows-more depth level t lt = let k : depth - level ≡ suc (depth - (level + 1)) = omega arith in rw k refl

  -- The rows of one more entry.
  pub block-more : {G : Type 0} (depth level : ℕ) (ge : G → E) (items : List G) (i : ℕ) (g : G) (first out pushed new : List R) (r : R) → i < length items
      → out ≡ first ++ flat_map (block depth level) (map ge (take i items)) → r ≡ row level (ge (get_or items i g)) → pushed ≡ out ++ r ∷ []
      → new ≡ pushed ++ rows_over entries below row (depth - (level + 1)) (level + 1) (below (ge (get_or items i g)))
      → new ≡ first ++ flat_map (block depth level) (map ge (take (i + 1) items))
  block-more depth level ge items i g first out pushed new r lt so-far is push more =
      let h = get_or items i g in
      let f = block depth level in
      let under = rows_over entries below row (depth - (level + 1)) (level + 1) (below (ge h)) in
      let b : r ∷ under ≡ f (ge h) = ap (λ (s : R). s ∷ under) is in
      more ∙ (ap (λ xs. xs ++ under) push ∙ (append_assoc out (r ∷ []) under ∙ (ap (λ xs. out ++ xs) b ∙ (ap (λ xs. xs ++ f (ge h)) so-far
      ∙ (flat_map_more f first (map ge (take i items)) (ge h) ∙ ap (λ es. first ++ flat_map f es) (sym (map_more ge items i g lt)))))))

-- What holds of each row, if it holds of the row of an entry before the rows below it.
module _ {T E R : Type 0} (entries : T → List E) (below : E → T) (row : ℕ → E → R) (at : R → ℕ) (at-row : (level : ℕ) (e : E) → at (row level e) ≡ level) where
  abbrev listed : ℕ → ℕ → T → List R
  listed n level t = rows_over entries below row n level t

  abbrev blocks : ℕ → ℕ → List E → List R
  blocks n level es = flat_map (λ (e : E). row level e ∷ listed n (level + 1) (below e)) es

  -- The rows of entries go on at their level.
  pub stops-entries : (n level : ℕ) (es : List E) (after : List R) → Stops at (level + 1) after → Stops at (level + 1) (blocks n level es ++ after)
  stops-entries n level [] after stops = stops
  stops-entries n level (e ∷ es) after stops = omega (arith, at-row level e)

  pub stops-rows : (n level : ℕ) (t : T) (after : List R) → Stops at (level + 1) after → Stops at (level + 1) (listed n level t ++ after)
  unfolding rows_over
  stops-rows zero level t after stops = stops
  stops-rows (suc n) level t after stops = stops-entries n level (entries t) after stops

  module _ (Of : ℕ → T → Type 0) (Sound : ℕ → E → Type 0) (sound : (n : ℕ) (t : T) → Of (suc n) t → All (Sound n) (entries t)) (deep : (n : ℕ) (e : E) → Sound n e → Of n (below e)) (depth : ℕ)
      (P : R → List R → Type 0) (one : (n level : ℕ) (e : E) (after : List R) → depth ≡ level + suc n → Sound n e → Stops at (level + 1) after → P (row level e) (listed n (level + 1) (below e) ++ after)) where
    each-entry : (n level : ℕ) (after : List R) → depth ≡ level + suc n → Stops at (level + 1) after → EachRow P after
        → ((t : T) (later : List R) → Of n t → Stops at (level + 1 + 1) later → EachRow P later → EachRow P (listed n (level + 1) t ++ later))
        → (es : List E) → All (Sound n) es → EachRow P (blocks n level es ++ after)
    each-entry n level after d stops each under [] all = each
    each-entry n level after d stops each under (e ∷ es) all =
        let S : E → Type 0 = Sound n in
        let rest = blocks n level es ++ after in
        let here = All-head S e es all in
        let more : EachRow P rest = each-entry n level after d stops each under es (All-tail S e es all) in
        let ends : Stops at (level + 1) rest = stops-entries n level es after stops in
        let q : blocks n level (e ∷ es) ++ after ≡ row level e ∷ (listed n (level + 1) (below e) ++ rest) = ap (λ xs. row level e ∷ xs) (append_assoc (listed n (level + 1) (below e)) (blocks n level es) after) in
        let both : EachRow P (row level e ∷ (listed n (level + 1) (below e) ++ rest)) =
        (one n level e rest d here ends, under (below e) rest (deep n e here) (stops-later at (level + 1) (level + 1 + 1) rest (omega arith) ends) more) in
        subst (EachRow P) (sym q) both

    each-listed : (n level : ℕ) (t : T) (after : List R) → depth ≡ level + n → Of n t → Stops at (level + 1) after → EachRow P after → EachRow P (listed n level t ++ after)
    unfolding rows_over
    each-listed zero level t after d of stops each = each
    each-listed (suc n) level t after d of stops each =
        each-entry n level after d stops each (λ u later each-of ends so. each-listed n (level + 1) u later (omega (arith, d)) each-of ends so) (entries t) (sound n t of)

    pub each-row : (t : T) → Of depth t → EachRow P (listed depth 0 t)
    each-row t of = subst (EachRow P) (append-nil (listed depth 0 t)) (each-listed depth 0 t [] (omega arith) of tt tt)

-- A row has no children if the next level is no greater.
pub no-child : (level : ℕ) (r : Row) (rows : List Row) → r.level ≡ level → Stops (λ (s : Row). s.level) (level + 1) rows → has_children r rows ≡ false
no-child level r [] e stops = refl
no-child level r (next ∷ rows) e stops = le-ltb r.level next.level (omega (arith, stops))

-- A row has children if the next level is greater.
child : (r : Row) (next : Row) (rows : List Row) → r.level < next.level → has_children r (next ∷ rows) ≡ true
child r next rows lt = lt-ltb r.level next.level lt

pub stopped : (size : Row → ℕ) (level : ℕ) (rows : List Row) → Stops (λ (r : Row). r.level) level rows → level_sum size level rows ≡ 0
stopped size level [] stops = refl
stopped size level (r ∷ rows) stops = let a : nat_lt r.level level ≡ true = grind (arith, common_steps) in rw a refl

abbrev pub has_some : {X : Type 0} → List X → Bool
has_some [] = false
has_some (x ∷ xs) = true

pub some-of : {X : Type 0} (xs : List X) → 0 < length xs → has_some xs ≡ true
some-of [] lt = absurd (omega arith)
some-of (x ∷ xs) lt = refl

-- Rows as those of a report, each with its level.
module _ {T E : Type 0} (entries : T → List E) (below : E → T) (shape : E → Row) where
  abbrev pub row_at : ℕ → E → Row
  row_at level e = record (shape e) { level = level }

  abbrev pub rows_at : ℕ → ℕ → T → List Row
  rows_at n level t = rows_over entries below row_at n level t

  abbrev of-entries : ℕ → ℕ → List E → List Row
  of-entries n level es = flat_map (λ (e : E). row_at level e ∷ rows_at n (level + 1) (below e)) es

  abbrev level-of : Row → ℕ
  level-of r = r.level

  -- Whether the row of an entry has children.
  children-are : (n level : ℕ) (e : E) (after : List Row) → Stops level-of (level + 1) after → has_children (row_at level e) (rows_at (suc n) (level + 1) (below e) ++ after) ≡ has_some (entries (below e))
  unfolding rows_over
  children-are n level e after stops = over (entries (below e))
    where
      over : (es : List E) → has_children (row_at level e) (of-entries n (level + 1) es ++ after) ≡ has_some es
      over [] = no-child level (row_at level e) after refl stops
      over (x ∷ es) = child (row_at level e) (row_at (level + 1) x) ((rows_at n (level + 1 + 1) (below x) ++ of-entries n (level + 1) es) ++ after) (omega arith)

  module _ (Of : ℕ → T → Type 0) (Sound : ℕ → E → Type 0) (sound : (n : ℕ) (t : T) → Of (suc n) t → All (Sound n) (entries t)) (deep : (n : ℕ) (e : E) → Sound n e → Of n (below e))
      (some : (n : ℕ) (e : E) → Sound (suc n) e → has_some (entries (below e)) ≡ not (is_others (shape e).kind)) where
    -- What holds of the levels below a label holds of those below a row that has children.
    pub of-children : (n level : ℕ) (e : E) (after : List Row) → Sound n e → Stops level-of (level + 1) after → has_children (row_at level e) (rows_at n (level + 1) (below e) ++ after) ≡ true
        → (P : ℕ → Type 0) → ((m : ℕ) → is_others (shape e).kind ≡ false → P (suc m)) → P n
    unfolding rows_over
    of-children zero level e after is stops kids P one = let none = no-child level (row_at level e) after refl stops in absurd (differ (sym none ∙ kids))
      where
        differ : false ≡ true → ⊥
        differ e = cc e
    of-children (suc n) level e after is stops kids P one = one n (label (is_others (shape e).kind) (sym (children-are n level e after stops ∙ some n e is) ∙ kids))
      where
        label : (b : Bool) → not b ≡ true → b ≡ false
        label true e = cc e
        label false e = refl

    module _ (depth : ℕ) where
      -- What a tree says about a row.
      abbrev InTree : Row → List Row → Type 0
      InTree r rows = (r.level < depth) × (has_children r rows ≡ not (is_others r.kind || (r.level + 1 == depth))) × Stops level-of (r.level + 1 + 1) rows

      in-tree : (n level : ℕ) (e : E) (after : List Row) → depth ≡ level + suc n → Sound n e → Stops level-of (level + 1) after → InTree (row_at level e) (rows_at n (level + 1) (below e) ++ after)
      unfolding rows_over
      in-tree zero level e after d is stops = (
        omega (arith, d),
        (let last : (level + 1 == depth) ≡ true = eq-eqb (level + 1) depth (omega (arith, d)) in no-child level (row_at level e) after refl stops ∙ sym (rw last (ap not (or-true (is_others (shape e).kind))))),
        stops-later level-of (level + 1) (level + 1 + 1) after (omega arith) stops,
      )
      in-tree (suc n) level e after d is stops = (
        omega (arith, d),
        (let more : (level + 1 == depth) ≡ false = ne_eqb (level + 1) depth (λ e. omega (arith, d, e)) in children-are n level e after stops ∙ (some n e is ∙ sym (rw more (ap not (or-false (is_others (shape e).kind)))))),
        stops-entries entries below row_at level-of (λ l x. refl) n (level + 1) (entries (below e)) after (stops-later level-of (level + 1) (level + 1 + 1) after (omega arith) stops),
      )

      are-levels : (high : ℕ) (rows : List Row) → Stops level-of (high + 1) rows → EachRow InTree rows → AreLevels depth high rows
      are-levels high [] stops each = tt
      are-levels high (r ∷ rows) stops each = (omega (arith, stops), each.0.0, each.0.1, are-levels (r.level + 1) rows each.0.2 each.1)

      -- The rows form a tree.
      pub are-tree : (t : T) → Of depth t → AreLevels depth 0 (rows_at depth 0 t)
      are-tree t of =
          are-levels 0 (rows_at depth 0 t) (subst (Stops level-of 1) (append-nil (rows_at depth 0 t)) (stops-rows entries below row_at level-of (λ l e. refl) depth 0 t [] tt))
          (each-row entries below row_at level-of (λ l e. refl) Of Sound sound deep depth InTree in-tree t of)

  -- A sum over a level skips the rows of deeper levels.
  module _ (size : Row → ℕ) where
    over-row : (level : ℕ) (r : Row) (rows : List Row) → level < r.level → level_sum size level (r ∷ rows) ≡ level_sum size level rows
    over-row level r rows lt =
        let a : nat_lt r.level level ≡ false = grind (arith, common_steps) in
        let b : (r.level == level) ≡ false = grind (arith, common_steps) in
        rw (a, b) (zero-add (level_sum size level rows))

    at-row : (level : ℕ) (r : Row) (rows : List Row) → r.level ≡ level → level_sum size level (r ∷ rows) ≡ size r + level_sum size level rows
    at-row level r rows e =
        let a : nat_lt r.level level ≡ false = grind (arith, common_steps) in
        let b : (r.level == level) ≡ true = grind (arith, common_steps) in
        rw (a, b) refl

    over-entries : (low n level : ℕ) (after : List Row) → low < level → ((t : T) (later : List Row) → level_sum size low (rows_at n (level + 1) t ++ later) ≡ level_sum size low later)
        → (es : List E) → level_sum size low (of-entries n level es ++ after) ≡ level_sum size low after
    over-entries low n level after lt each [] = refl
    over-entries low n level after lt each (e ∷ es) =
        over-row low (row_at level e) ((rows_at n (level + 1) (below e) ++ of-entries n level es) ++ after) lt
        ∙ (ap (level_sum size low) (append_assoc (rows_at n (level + 1) (below e)) (of-entries n level es) after)
        ∙ (each (below e) (of-entries n level es ++ after) ∙ over-entries low n level after lt each es))

    over-rows : (low n level : ℕ) (t : T) (after : List Row) → low < level → level_sum size low (rows_at n level t ++ after) ≡ level_sum size low after
    unfolding rows_over
    over-rows low zero level t after lt = refl
    over-rows low (suc n) level t after lt = over-entries low n level after lt (λ u later. over-rows low n (level + 1) u later (omega arith)) (entries t)

    at-entries : (n level : ℕ) (after : List Row) (es : List E) → level_sum size level (of-entries n level es ++ after) ≡ sum_by (λ (e : E). size (row_at level e)) es + level_sum size level after
    at-entries n level after [] = omega arith
    at-entries n level after (e ∷ es) =
        let first : level_sum size level (of-entries n level (e ∷ es) ++ after) ≡ size (row_at level e) + level_sum size level (of-entries n level es ++ after) =
        at-row level (row_at level e) ((rows_at n (level + 1) (below e) ++ of-entries n level es) ++ after) refl
        ∙ ap (λ k. size (row_at level e) + k)
        (ap (level_sum size level) (append_assoc (rows_at n (level + 1) (below e)) (of-entries n level es) after) ∙ over-rows level n (level + 1) (below e) (of-entries n level es ++ after) (omega arith)) in
        omega (arith, first, at-entries n level after es, sum_by-cons (λ (d : E). size (row_at level d)) e es)

    -- A level adds up its entries.
    pub at-rows : (n level : ℕ) (t : T) (after : List Row) → level_sum size level (rows_at (suc n) level t ++ after) ≡ sum_by (λ (e : E). size (row_at level e)) (entries t) + level_sum size level after
    unfolding rows_over
    at-rows n level t after = at-entries n level after (entries t)

    pub level-sum : (n level : ℕ) (t : T) (after : List Row) → Stops level-of level after → level_sum size level (rows_at (suc n) level t ++ after) ≡ sum_by (λ (e : E). size (row_at level e)) (entries t)
    level-sum n level t after stops = omega (arith, at-rows n level t after, stopped size level after stops)
