-- Entries that are sorted and cut by a limit are in the order of a report.
use Rattle.std.proofs.Common.{◌≡◌, ℕ, ◌<◌, ◌≤◌, ◌==◌, List, [], ◌∷◌, ◌++◌, length, take, drop, map, refl, sym, ap, ◌∙◌, subst, Bool, true, false, cond, le-ltb, lt-ltb, arith, ◌⊎◌, inl, inr}
use Rattle.std.specs.Prelude.{All, nat_lt}
use Rattle.std.specs.declared.cmp.Ordering.{Ordering}
use Rattle.std.specs.declared.cmp.Ordering.TheVariants.{Less, Equal, Greater}
use Rattle.std.specs.List.{flat_map, AllByRecursion}
use Rattle.std.specs.List.Sorted.{IsSorted, IsStrictlySortedBy}
use Rattle.std.specs.Ordering.{is_lt, nat_cmp, ordering_reverse, ordering_then}
use Rattle.std.specs.Str.{bytes_eq}
use Rattle.std.proofs.lemmas.Bool.Decides.{nat_tests}
use Rattle.std.proofs.lemmas.Cmp.{ranked}
use Rattle.std.proofs.lemmas.List.{append-nil, drop-map, length-drop, length-map, length-take-le, take-append-drop, take-map}
use Rattle.std.proofs.lemmas.List.Concat.{flat_map-append}
use Rattle.std.proofs.lemmas.List.Elements.{All-cons, All-head, All-nil, All-tail, All-weaker, recursion_from_All}
use Rattle.std.proofs.lemmas.List.Sums.{sum_by-cons}
use Rattle.report_rows.specs.declared.row.RowKind.TheVariants.{Label, Others}
use Rattle.report_rows.specs.Order.{placed, within}
use Rattle.report_rows.specs.Ordered.{AreRows, Report, label_order, label_rows, others_rows}
use Rattle.report_rows.specs.Paths.{times}
use Rattle.report_rows.proofs.CutLemmas.{hit, order-is, order-total, times-cons}
use Rattle.report_rows.proofs.LimitLemmas.{within-all, within-more}
use Rattle.report_rows.proofs.OrderLemmas.{head-least, tail-sorted}
use Rattle.report_rows.proofs.TableLemmas.{bytes_eq-same}

pub lt-is : (m n : ℕ) → is_lt (nat_cmp m n) ≡ nat_lt m n
lt-is m n = at (nat_lt m n) (m == n)
  where
    at : (b c : Bool) → is_lt (cond b Less (cond c Equal Greater)) ≡ b
    at true c = refl
    at false true = refl
    at false false = refl

pub at-most-one : (b : Bool) (n : ℕ) → n ≡ cond b 1 0 → n ≤ 1
at-most-one true n e = omega (arith, e)
at-most-one false n e = omega (arith, e)

-- Sorted lists of labels, each at most once.

less-or-not : (m n : ℕ) (rest r : Ordering) → r ≡ nat_cmp m n → ordering_then r rest ≡ Less → m ≤ n
less-or-not m n rest Less e h = let q : m < n = ranked m n Less e in omega arith
less-or-not m n rest Equal e h = let q : m ≡ n = ranked m n Equal e in omega arith
less-or-not m n rest Greater e h = cc h

module _ (key : List ℕ → ℕ) where
  -- One label before another that isn't before it.
  before : (x z : List ℕ) (r : Ordering) → label_order key x z ≡ r → is_lt (label_order key z x) ≡ false → bytes_eq z x ≡ false → label_order key x z ≡ Less
  before x z Less e h other = e
  before x z Equal e h other = absurd (let same : bytes_eq z x ≡ true = ap (λ w. bytes_eq w x) (sym (order-is key x z e)) ∙ bytes_eq-same x in cc (same, other))
  before x z Greater e h other =
      absurd (let back : is_lt (label_order key z x) ≡ true = ap is_lt ((order-total key).antisymm z x ∙ ap ordering_reverse e) in cc (back, h))

  before-all : (x : List ℕ) (xs : List (List ℕ)) → AllByRecursion (λ z. is_lt (label_order key z x) ≡ false) xs → times x xs ≡ 0 → AllByRecursion (λ z. label_order key x z ≡ Less) xs
  before-all x [] h none = tt
  before-all x (z ∷ zs) h none = at (bytes_eq z x) refl (before-all x zs h.1)
    where
      at : (b : Bool) → bytes_eq z x ≡ b → (times x zs ≡ 0 → AllByRecursion (λ w. label_order key x w ≡ Less) zs) → AllByRecursion (λ w. label_order key x w ≡ Less) (z ∷ zs)
      at true e rest = absurd (omega (arith, times-cons x z zs true e, none))
      at false e rest = (before x z (label_order key x z) refl h.0 e, rest (omega (arith, times-cons x z zs false e, none)))

  pub strictly : (xs : List (List ℕ)) → IsSorted (label_order key) xs → ((label : List ℕ) → times label xs ≤ 1) → IsStrictlySortedBy (label_order key) xs
  unfolding IsStrictlySortedBy
  strictly [] sorted once = tt
  strictly (x ∷ xs) sorted once =
      let R = label_order key in
      let later = recursion_from_All (λ z. is_lt (R z x) ≡ false) xs (head-least R (order-total key) x xs sorted) in
      let none : times x xs ≡ 0 = omega (arith, times-cons x x xs true (bytes_eq-same x), once x) in
      (before-all x xs later none, strictly xs (tail-sorted R x xs sorted) (λ label. omega (arith, once label, sum_by-cons (hit label) x xs)))

  sorted-front : (xs ys : List (List ℕ)) → IsStrictlySortedBy (label_order key) (xs ++ ys) → IsStrictlySortedBy (label_order key) xs
  unfolding IsStrictlySortedBy
  sorted-front [] ys sorted = tt
  sorted-front (x ∷ xs) ys sorted = (front xs sorted.0, sorted-front xs ys sorted.1)
    where
      front : (us : List (List ℕ)) → AllByRecursion (λ z. label_order key x z ≡ Less) (us ++ ys) → AllByRecursion (λ z. label_order key x z ≡ Less) us
      front [] all = tt
      front (u ∷ us) all = (all.0, front us all.1)

  -- Labels in order have those with a larger key than a number first.
  pub record Split (k : ℕ) (stay : List (List ℕ)) : Type 0 where
    pub above : List (List ℕ)
    pub rest : List (List ℕ)
    pub is : above ++ rest ≡ stay
    pub higher : All (λ l. k < key l) above
    pub lower : All (λ l. key l ≤ k) rest

  all-lower : (k : ℕ) (x : List ℕ) (xs : List (List ℕ)) → key x ≤ k → AllByRecursion (λ z. label_order key x z ≡ Less) xs → All (λ z. key z ≤ k) xs
  all-lower k x [] low h = All-nil (λ z. key z ≤ k)
  all-lower k x (z ∷ zs) low h =
      let le : key z ≤ key x = less-or-not (key z) (key x) _ (nat_cmp (key z) (key x)) refl h.0 in
      All-cons (λ w. key w ≤ k) z zs (omega arith) (all-lower k x zs low h.1)

  split : (k : ℕ) (stay : List (List ℕ)) → IsStrictlySortedBy (label_order key) stay → Split k stay
  unfolding IsStrictlySortedBy
  split k [] sorted = record { above = []; rest = []; is = refl; higher = All-nil (λ l. k < key l); lower = All-nil (λ l. key l ≤ k) }
  split k (x ∷ xs) sorted = at (nat_lt k (key x)) refl (all-lower k x xs) (split k xs sorted.1)
    where
      at : (b : Bool) → nat_lt k (key x) ≡ b → (key x ≤ k → AllByRecursion (λ z. label_order key x z ≡ Less) xs → All (λ z. key z ≤ k) xs) → Split k xs → Split k (x ∷ xs)
      at true e low s = record {
        above = x ∷ s.above;
        rest = s.rest;
        is = ap (λ ls. x ∷ ls) s.is;
        higher = (let lt : k < key x = grind (arith, nat_tests) in All-cons (λ l. k < key l) x s.above lt s.higher);
        lower = s.lower;
      }
      at false e low s = record {
        above = [];
        rest = x ∷ xs;
        is = refl;
        higher = All-nil (λ l. k < key l);
        lower = (let le : key x ≤ k = grind (arith, nat_tests) in All-cons (λ l. key l ≤ k) x xs le (low le sorted.0));
      }

-- If an element is placed among entries.
placed-split : {E : Type 0} (by : E → E → Ordering) (entry : List ℕ → E) (x : E) (above rest : List (List ℕ)) → All (λ l. is_lt (by (entry l) x) ≡ true) above → All (λ l. is_lt (by (entry l) x) ≡ false) rest
    → placed by x (map entry (above ++ rest)) ≡ map entry above ++ x ∷ map entry rest
unfolding placed
placed-split by entry x [] [] high low = refl
placed-split by entry x [] (l ∷ rest) high low = rw (All-head (λ l. is_lt (by (entry l) x) ≡ false) l rest low) refl
placed-split by entry x (l ∷ above) rest high low =
    let P : List ℕ → Type 0 = λ l. is_lt (by (entry l) x) ≡ true in
    rw (All-head P l above high) (ap (λ es. entry l ∷ es) (placed-split by entry x above rest (All-tail P l above high) low))

-- Rows of entries that are sorted and cut by a limit.
module _ {S R E : Type 0} (r : Report S R) (level : ℕ) (sizes : List ℕ → S) (Under : List ℕ → List R → Type 0) (under : List ℕ → List R) (below : (l : List ℕ) → Under l (under l))
    (entry : List ℕ → E) (by : E → E → Ordering) (others : List E → E) (block : E → List R)
    (of-label : (l : List ℕ) → block (entry l) ≡ r.row level (Label l) (sizes l) ∷ under l)
    (of-others : (left : List (List ℕ)) → block (others (map entry left)) ≡ r.row level (Others (length (map sizes left))) (r.sums (map sizes left)) ∷ [])
    (tells : (l : List ℕ) (left : List (List ℕ)) → is_lt (by (entry l) (others (map entry left))) ≡ nat_lt (r.key (r.sums (map sizes left))) (r.key (sizes l)))
    (labels : List (List ℕ)) (each : (label : List ℕ) → times label labels ≡ cond (r.is_shown (sizes label)) 1 0) (sorted : IsStrictlySortedBy (label_order (λ l. r.key (sizes l))) labels) where
  abbrev key : List ℕ → ℕ
  key l = r.key (sizes l)

  abbrev own : List (List ℕ) → ℕ
  own left = r.key (r.sums (map sizes left))

  abbrev row : List ℕ → R
  row l = r.row level (Label l) (sizes l)

  label-blocks : (ls : List (List ℕ)) → flat_map block (map entry ls) ≡ label_rows row under ls
  label-blocks [] = refl
  label-blocks (l ∷ ls) = rw (of-label l, label-blocks ls) refl

  others-block : (left : List (List ℕ)) → 0 < length left → block (others (map entry left)) ≡ others_rows r level (map sizes left)
  others-block [] some = absurd (omega arith)
  others-block (l ∷ left) some = of-others (l ∷ left)

  -- The rows of labels that stay, and of an Others row.
  from-parts : (stay left : List (List ℕ)) → stay ++ left ≡ labels → (0 < r.limit → length stay ≤ r.limit) → (0 < length left → (0 < r.limit) × (length stay ≡ r.limit)) → (rows : List R)
      → ((s : Split key (own left) stay) → rows ≡ label_rows row under s.above ++ (others_rows r level (map sizes left) ++ label_rows row under s.rest)) → AreRows r level sizes Under rows
  from-parts stay left whole most full rows are =
      let order = label_order key in
      let s : Split key (own left) stay = split key (own left) stay (sorted-front key stay left (subst (IsStrictlySortedBy order) (sym whole) sorted)) in
      let all : (s.above ++ s.rest) ++ left ≡ labels = ap (λ ls. ls ++ left) s.is ∙ whole in
      record {
        above = s.above;
        rest = s.rest;
        left = left;
        cut = record {
          each = λ label. ap (times label) all ∙ each label;
          ordered = subst (IsStrictlySortedBy order) (sym all) sorted;
          most = λ some. omega (arith, ap length s.is, most some);
          full = λ some. (let f = full some in (f.0, ap length s.is ∙ f.1));
        };
        higher = s.higher;
        lower = s.lower;
        under = under;
        below = λ k d lt. below _;
        are = are s;
      }

  no-cut : (r.limit ≡ 0) ⊎ (length labels ≤ r.limit) → (0 < r.limit → length labels ≤ r.limit) → AreRows r level sizes Under (flat_map block (within r.limit by others (map entry labels)))
  no-cut few most =
      let few2 : (r.limit ≡ 0) ⊎ (length (map entry labels) ≤ r.limit) = rw length-map few in
      from-parts labels [] (append-nil labels) most (λ some. absurd (omega arith)) (flat_map block (within r.limit by others (map entry labels)))
      (λ s.
      ap (flat_map block) (within-all r.limit by others (map entry labels) few2)
      ∙ (label-blocks labels ∙ (ap (label_rows row under) (sym s.is) ∙ flat_map-append (λ l. row l ∷ under l) s.above s.rest)))

  cut : 0 < r.limit → r.limit < length labels → AreRows r level sizes Under (flat_map block (within r.limit by others (map entry labels)))
  cut some more =
      let stay = take r.limit labels in
      let left = drop r.limit labels in
      let x = others (map entry left) in
      let long : length stay ≡ r.limit = length-take-le r.limit labels (omega arith) in
      from-parts stay left (take-append-drop r.limit labels) (λ h. omega (arith, long)) (λ h. (some, long)) (flat_map block (within r.limit by others (map entry labels)))
      (λ s.
      ap (flat_map block)
      (within-more r.limit by others (map entry labels) some (rw length-map more)
      ∙ (ap (λ es. placed by (others es) (take r.limit (map entry labels))) (drop-map entry r.limit labels)
      ∙ (ap (placed by x) (take-map entry r.limit labels ∙ ap (map entry) (sym s.is))
      ∙ placed-split by entry x s.above s.rest
      (All-weaker (λ l. own left < key l) (λ l. is_lt (by (entry l) x) ≡ true) (λ l lt. tells l left ∙ lt-ltb (own left) (key l) lt) s.above s.higher)
      (All-weaker (λ l. key l ≤ own left) (λ l. is_lt (by (entry l) x) ≡ false) (λ l le. tells l left ∙ le-ltb (own left) (key l) le) s.rest s.lower))))
      ∙ (flat_map-append block (map entry s.above) (x ∷ map entry s.rest)
      ∙ (ap (λ xs. xs ++ (block x ++ flat_map block (map entry s.rest))) (label-blocks s.above)
      ∙ (ap (λ xs. label_rows row under s.above ++ (block x ++ xs)) (label-blocks s.rest)
      ∙ ap (λ xs. label_rows row under s.above ++ (xs ++ label_rows row under s.rest)) (others-block left (omega (arith, length-drop r.limit labels)))))))

  pub are-rows : AreRows r level sizes Under (flat_map block (within r.limit by others (map entry labels)))
  are-rows = at (nat_lt r.limit (length labels)) (nat_lt 0 r.limit) refl refl
    where
      at : (b c : Bool) → nat_lt r.limit (length labels) ≡ b → nat_lt 0 r.limit ≡ c → AreRows r level sizes Under (flat_map block (within r.limit by others (map entry labels)))
      at true true e f = cut (grind (arith, nat_tests)) (grind (arith, nat_tests))
      at true false e f = (let none : r.limit ≡ 0 = grind (arith, nat_tests) in no-cut (inl none) (λ some. absurd (omega arith)))
      at false c e f = (let few : length labels ≤ r.limit = grind (arith, nat_tests) in no-cut (inr few) (λ some. few))
