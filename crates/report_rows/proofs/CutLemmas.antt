-- One order alone fits the sizes of paths.
use Rattle.std.proofs.Common.{◌≡◌, ℕ, zero, suc, ◌+◌, ◌<◌, ◌≤◌, List, [], ◌∷◌, ◌++◌, length, take, drop, map, refl, sym, ap, ◌∙◌, subst, Bool, true, false, cond, arith}
use Rattle.std.specs.Prelude.{All}
use Rattle.std.specs.declared.cmp.Ordering.TheVariants.{Less, Equal}
use Rattle.std.specs.Cmp.{IsTotalOrder, nat_cmp_total, then_total, back_total, on_total}
use Rattle.std.specs.Cmp.Lexicographic.{slice_cmp, nat_list_cmp_total}
use Rattle.std.specs.List.{AllByRecursion}
use Rattle.std.specs.List.Sorted.{IsStrictlySortedBy}
use Rattle.std.specs.Ordering.{is_gt, nat_cmp}
use Rattle.std.specs.Str.{bytes_eq}
use Rattle.std.proofs.lemmas.Cmp.{tied_itself}
use Rattle.std.proofs.lemmas.List.{drop-append-le, drop_all, length-append, take-append-le, take_all}
use Rattle.std.proofs.lemmas.List.Elements.{All-cons, All-head, All-nil, All-tail}
use Rattle.std.proofs.lemmas.List.Sums.{sum_by-cons}
use Rattle.report_rows.specs.declared.row.RowKind.TheVariants.{Label}
use Rattle.report_rows.specs.declared.row.Row.{Row}
use Rattle.report_rows.specs.declared.row.RowTree.{RowTree}
use Rattle.report_rows.specs.Ordered.{AreRows, InReportOrder, IsCut, Report, label_order, label_rows, others_rows}
use Rattle.report_rows.specs.Paths.{Path, times}
use Rattle.report_rows.specs.SizeTrees.{OneTreeFits, both_sizes, size_report}
use Rattle.report_rows.proofs.AscendLemmas.{both-ways, bytes-equal, then-equal}
use Rattle.report_rows.proofs.TableLemmas.{bytes_eq-same, same_bytes}

-- Labels in a list.

abbrev pub hit : List ℕ → List ℕ → ℕ
hit label l = cond (bytes_eq l label) 1 0

-- How often a label is in a list with one more.
pub times-cons : (x y : List ℕ) (ys : List (List ℕ)) (b : Bool) → bytes_eq y x ≡ b → times x (y ∷ ys) ≡ cond b 1 0 + times x ys
times-cons x y ys b e = sum_by-cons (hit x) y ys ∙ ap (λ c. cond c 1 0 + times x ys) e

-- What holds of each label holds of one that is in the list.
in-all : (P : List ℕ → Type 0) (x : List ℕ) (ys : List (List ℕ)) → AllByRecursion P ys → 0 < times x ys → P x
in-all P x [] all some = absurd (omega arith)
in-all P x (y ∷ ys) all some = at (bytes_eq y x) refl (in-all P x ys all.1)
  where
    at : (b : Bool) → bytes_eq y x ≡ b → (0 < times x ys → P x) → P x
    at true e rest = subst P (same_bytes y x e) all.0
    at false e rest = rest (omega (arith, some, times-cons x y ys false e))

-- The first label of a list is in it.
pub first-in : (x : List ℕ) (xs : List (List ℕ)) → 0 < times x (x ∷ xs)
first-in x xs = omega (arith, times-cons x x xs true (bytes_eq-same x))

-- The order of labels.
module _ (key : List ℕ → ℕ) where
  pub order-total : IsTotalOrder (label_order key)
  order-total = then_total {R = λ a b. nat_cmp (key b) (key a)} {S = slice_cmp nat_cmp} (on_total key (back_total nat_cmp_total)) nat_list_cmp_total

  pub order-is : (a b : List ℕ) → label_order key a b ≡ Equal → a ≡ b
  order-is a b e = bytes-equal a b (then-equal _ _ e).1

  not-above : (y : List ℕ) (ys : List (List ℕ)) → AllByRecursion (λ z. label_order key y z ≡ Less) ys → AllByRecursion (λ z. is_gt (label_order key y z) ≡ false) ys
  not-above y [] h = tt
  not-above y (z ∷ ys) h = (ap is_gt h.0, not-above y ys h.1)

  from-first : (y : List ℕ) (ys : List (List ℕ)) → AllByRecursion (λ z. label_order key y z ≡ Less) ys → AllByRecursion (λ z. is_gt (label_order key y z) ≡ false) (y ∷ ys)
  from-first y ys h = (ap is_gt (tied_itself order-total y), not-above y ys h)

  -- Sorted lists of the same labels are one list.
  pub same-labels : (xs ys : List (List ℕ)) → IsStrictlySortedBy (label_order key) xs → IsStrictlySortedBy (label_order key) ys → ((label : List ℕ) → times label xs ≡ times label ys) → xs ≡ ys
  unfolding IsStrictlySortedBy
  same-labels [] [] s t same = refl
  same-labels [] (y ∷ ys) s t same = absurd (let e : 0 ≡ times y (y ∷ ys) = same y in omega (arith, e, first-in y ys))
  same-labels (x ∷ xs) [] s t same = absurd (let e : times x (x ∷ xs) ≡ 0 = same x in omega (arith, e, first-in x xs))
  same-labels (x ∷ xs) (y ∷ ys) s t same =
      let p : is_gt (label_order key y x) ≡ false = in-all (λ z. is_gt (label_order key y z) ≡ false) x (y ∷ ys) (from-first y ys t.0) (omega (arith, same x, first-in x xs)) in
      let q : is_gt (label_order key x y) ≡ false = in-all (λ z. is_gt (label_order key x z) ≡ false) y (x ∷ xs) (from-first x xs s.0) (omega (arith, same y, first-in y ys)) in
      let head : x ≡ y = order-is x y (both-ways (label_order key x y) (label_order key y x) (order-total.antisymm x y) q p) in
      let rest : xs ≡ ys = same-labels xs ys s.1 t.1 (λ l. omega (arith, same l, sum_by-cons (hit l) x xs, sum_by-cons (hit l) y ys, ap (hit l) head)) in
      rw (head, rest) refl

-- Parts of lists.

front-is : {X : Type 0} (n : ℕ) (xs ys : List X) → n ≡ length xs → take n (xs ++ ys) ≡ xs
front-is n xs ys e = take-append-le n xs ys (omega (arith, e)) ∙ take_all n xs (omega (arith, e))

back-is : {X : Type 0} (n : ℕ) (xs ys : List X) → n ≡ length xs → drop n (xs ++ ys) ≡ ys
back-is n xs ys e = drop-append-le n xs ys (omega (arith, e)) ∙ ap (λ zs. zs ++ ys) (drop_all n xs (omega (arith, e)))

same-front : {X : Type 0} (xs ys us vs : List X) → length xs ≡ length us → xs ++ ys ≡ us ++ vs → xs ≡ us
same-front xs ys us vs n e = sym (front-is (length xs) xs ys refl) ∙ (ap (take (length xs)) e ∙ front-is (length xs) us vs n)

same-back : {X : Type 0} (xs ys us vs : List X) → length xs ≡ length us → xs ++ ys ≡ us ++ vs → ys ≡ vs
same-back xs ys us vs n e = sym (back-is (length xs) xs ys refl) ∙ (ap (drop (length xs)) e ∙ back-is (length xs) us vs n)

pub All-front : {X : Type 0} (P : X → Type 0) (xs ys : List X) → All P (xs ++ ys) → All P xs
All-front P [] ys all = All-nil P
All-front P (x ∷ xs) ys all = All-cons P x xs (All-head P x (xs ++ ys) all) (All-front P xs ys (All-tail P x (xs ++ ys) all))

pub All-back : {X : Type 0} (P : X → Type 0) (xs ys : List X) → All P (xs ++ ys) → All P ys
All-back P [] ys all = all
All-back P (x ∷ xs) ys all = All-back P xs ys (All-tail P x (xs ++ ys) all)

-- The labels that stay.

same-count : (limit n m k j : ℕ) → n + m ≡ k + j → (0 < limit → n ≤ limit) → (0 < m → (0 < limit) × (n ≡ limit)) → (0 < limit → k ≤ limit) → (0 < j → (0 < limit) × (k ≡ limit)) → n ≡ k
same-count limit n zero k zero e most full most2 full2 = omega (arith, e)
same-count limit n zero k (suc j) e most full most2 full2 = let f = full2 (omega arith) in omega (arith, e, most f.0, f.1)
same-count limit n (suc m) k zero e most full most2 full2 = let f = full (omega arith) in omega (arith, e, most2 f.0, f.1)
same-count limit n (suc m) k (suc j) e most full most2 full2 = let f = full (omega arith) in let g = full2 (omega arith) in omega (arith, f.1, g.1)

module _ (limit : ℕ) (shown : List ℕ → Bool) (key : List ℕ → ℕ) (stay left stay2 left2 : List (List ℕ)) (a : IsCut limit shown key stay left) (b : IsCut limit shown key stay2 left2) where
  same-whole : stay ++ left ≡ stay2 ++ left2
  same-whole = same-labels key (stay ++ left) (stay2 ++ left2) a.ordered b.ordered (λ label. a.each label ∙ sym (b.each label))

  same-long : length stay ≡ length stay2
  same-long =
      let e : length stay + length left ≡ length stay2 + length left2 = sym (length-append stay left) ∙ (ap length same-whole ∙ length-append stay2 left2) in
      same-count limit (length stay) (length left) (length stay2) (length left2) e a.most a.full b.most b.full

  pub same-stay : stay ≡ stay2
  same-stay = same-front stay left stay2 left2 same-long same-whole

  pub same-left : left ≡ left2
  same-left = same-back stay left stay2 left2 same-long same-whole

-- The labels above a key.
same-above : {X : Type 0} (key : X → ℕ) (k : ℕ) (xs ys us vs : List X) → All (λ x. k < key x) xs → All (λ x. key x ≤ k) ys → All (λ x. k < key x) us → All (λ x. key x ≤ k) vs
    → xs ++ ys ≡ us ++ vs → length xs ≡ length us
same-above key k [] ys [] vs a b c d e = refl
same-above {X} key k [] ys (u ∷ us) vs a b c d e =
    let low : All (λ x. key x ≤ k) (u ∷ (us ++ vs)) = subst (All (λ x. key x ≤ k)) e b in
    absurd (omega (arith, All-head (λ x. key x ≤ k) u (us ++ vs) low, All-head (λ x. k < key x) u us c))
same-above key k (x ∷ xs) ys [] vs a b c d e =
    let low : All (λ z. key z ≤ k) (x ∷ (xs ++ ys)) = subst (All (λ z. key z ≤ k)) (sym e) d in
    absurd (omega (arith, All-head (λ z. key z ≤ k) x (xs ++ ys) low, All-head (λ z. k < key z) x xs a))
same-above key k (x ∷ xs) ys (u ∷ us) vs a b c d e =
    let rest : length xs ≡ length us = same-above key k xs ys us vs (All-tail (λ z. k < key z) x xs a) b (All-tail (λ z. k < key z) u us c) d (ap (drop 1) e) in
    omega (arith, rest)

-- Rows of labels with the same rows under them.
same-rows : {R : Type 0} (row : List ℕ → R) (u v : List ℕ → List R) (labels : List (List ℕ)) → All (λ l. u l ≡ v l) labels → label_rows row u labels ≡ label_rows row v labels
same-rows row u v [] same = refl
same-rows row u v (l ∷ labels) same =
    let E : List ℕ → Type 0 = λ l. u l ≡ v l in
    rw (All-head E l labels same, same-rows row u v labels (All-tail E l labels same)) refl

module _ {S R : Type 0} (r : Report S R) where
  pub same-level : (level : ℕ) (sizes : List ℕ → S) (Under : List ℕ → List R → Type 0) → ((l : List ℕ) (x y : List R) → Under l x → Under l y → x ≡ y)
      → (rows rows2 : List R) → AreRows r level sizes Under rows → AreRows r level sizes Under rows2 → rows ≡ rows2
  same-level level sizes Under alone rows rows2 a b =
      let row : List ℕ → R = λ l. r.row level (Label l) (sizes l) in
      let key : List ℕ → ℕ = λ l. r.key (sizes l) in
      let shown : List ℕ → Bool = λ l. r.is_shown (sizes l) in
      let own : List (List ℕ) → ℕ = λ left. r.key (r.sums (map sizes left)) in
      let stay : a.above ++ a.rest ≡ b.above ++ b.rest = same-stay r.limit shown key (a.above ++ a.rest) a.left (b.above ++ b.rest) b.left a.cut b.cut in
      let left : a.left ≡ b.left = same-left r.limit shown key (a.above ++ a.rest) a.left (b.above ++ b.rest) b.left a.cut b.cut in
      let higher : All (λ l. own a.left < key l) b.above = subst (λ ls. All (λ l. own ls < key l) b.above) (sym left) b.higher in
      let lower : All (λ l. key l ≤ own a.left) b.rest = subst (λ ls. All (λ l. key l ≤ own ls) b.rest) (sym left) b.lower in
      let long : length a.above ≡ length b.above = same-above key (own a.left) a.above a.rest b.above b.rest a.higher a.lower higher lower stay in
      let above : a.above ≡ b.above = same-front a.above a.rest b.above b.rest long stay in
      let rest : a.rest ≡ b.rest = same-back a.above a.rest b.above b.rest long stay in
      let below : All (λ l. Under l (b.under l)) (a.above ++ a.rest) = subst (All (λ l. Under l (b.under l))) (sym stay) b.below in
      let E : List ℕ → Type 0 = λ l. a.under l ≡ b.under l in
      let under : All E (a.above ++ a.rest) = (λ k d lt. alone _ _ _ (a.below k d lt) (below k d lt)) in
      let first : label_rows row a.under a.above ≡ label_rows row b.under a.above = same-rows row a.under b.under a.above (All-front E a.above a.rest under) in
      let last : label_rows row a.under a.rest ≡ label_rows row b.under a.rest = same-rows row a.under b.under a.rest (All-back E a.above a.rest under) in
      let all : List (List ℕ) → List (List ℕ) → List (List ℕ) → List R = λ x ls y. label_rows row b.under x ++ (others_rows r level (map sizes ls) ++ label_rows row b.under y) in
      a.are
      ∙ (ap (λ x. x ++ (others_rows r level (map sizes a.left) ++ label_rows row a.under a.rest)) first
      ∙ (ap (λ y. label_rows row b.under a.above ++ (others_rows r level (map sizes a.left) ++ y)) last
      ∙ (ap (λ x. all x a.left a.rest) above ∙ (ap (λ ls. all b.above ls a.rest) left ∙ (ap (λ y. all b.above b.left y) rest ∙ sym b.are)))))

  -- One list of rows alone is in the order of a report.
  pub one-order : (levels level : ℕ) (sizes : Path → S) (rows rows2 : List R) → InReportOrder r levels level sizes rows → InReportOrder r levels level sizes rows2 → rows ≡ rows2
  one-order zero level sizes rows rows2 a b = a ∙ sym b
  one-order (suc levels) level sizes rows rows2 a b =
      same-level level (λ l. sizes (l ∷ [])) (λ l. InReportOrder r levels (level + 1) (λ path. sizes (l ∷ path)))
      (λ l x y. one-order levels (level + 1) (λ path. sizes (l ∷ path)) x y) rows rows2 a b

same-tree : (d e v w f g : ℕ) (rows rows2 : List Row) → d ≡ e → v ≡ w → f ≡ g → rows ≡ rows2
    → ◌≡◌ {A = RowTree} (record { depth = d; vm = v; file = f; rows = rows }) (record { depth = e; vm = w; file = g; rows = rows2 })
same-tree d e v w f g rows rows2 a b c i = rw (a, b, c, i) refl

-- One tree alone fits.
pub one-tree : OneTreeFits
one-tree o vm file depth a b p q =
    same-tree a.depth b.depth a.vm b.vm a.file b.file a.rows b.rows (p.levels ∙ sym q.levels) (p.vm_total ∙ sym q.vm_total) (p.file_total ∙ sym q.file_total)
    (one-order (size_report o) depth 0 (both_sizes vm file) a.rows b.rows p.rows q.rows)
