-- The sizes of the children of a path add up to its own.
use Rattle.std.proofs.Common.{◌≡◌, ◌+◌, ◌^◌, ◌<◌, ◌≤◌, ℕ, zero, suc, Bool, true, false, cond, ◌&&◌, List, [], ◌∷◌, ◌++◌, length, get_or, Option, refl, sym, ap, ◌∙◌, subst, arith}
use Rattle.std.specs.Prelude.{◌≢◌, All, AllPairs, Contains}
use Rattle.std.specs.List.{sum_by}
use Rattle.std.specs.Str.{bytes_eq}
use Rattle.std.proofs.Math.Bool.{and_assoc}
use Rattle.std.proofs.lemmas.List.{length-map}
use Rattle.std.proofs.lemmas.List.Elements.{All-head, All-tail}
use Rattle.std.proofs.lemmas.List.Sums.{sum_by-cons, get_or-le-sum_by}
use Rattle.std.proofs.lemmas.Map.Made.{Contains-tail}
use Rattle.size_model.specs.declared.view.FileView.{FileView}
use Rattle.size_model.specs.Count.{count_from}
use Rattle.size_model.specs.Loads.{is_mapped, space_of, address_of}
use Rattle.size_model.specs.Sizes.{label_of_offset, label_of_address, offset_path, position_path, counts_for, file_size_in, vm_size_in}
use Rattle.size_model.specs.Laws.{HasChildren, HaveLongerPaths, ChildrenAddUp}
use Rattle.size_model.proofs.Counts.{count-zero, count-suc, count-same, count-some}
use Rattle.size_model.proofs.Paths.{bytes_eq-same, same_bytes, counts_for-push}

pub sum_by-same : {X : Type 0} (f g : X → ℕ) (xs : List X) → ((x : X) → f x ≡ g x) → sum_by f xs ≡ sum_by g xs
sum_by-same f g [] h = refl
sum_by-same f g (x ∷ xs) h = sum_by-cons f x xs ∙ (ap (λ k. k + sum_by f xs) (h x) ∙ (ap (λ k. g x + k) (sum_by-same f g xs h) ∙ sym (sum_by-cons g x xs)))

sum_by-zero : {X : Type 0} (xs : List X) → sum_by (λ (x : X). 0) xs ≡ 0
sum_by-zero [] = refl
sum_by-zero {X} (x ∷ xs) = sum_by-cons (λ (y : X). 0) x xs ∙ omega (arith, sum_by-zero xs)

sum_by-plus : {X : Type 0} (f g : X → ℕ) (xs : List X) → sum_by (λ x. f x + g x) xs ≡ sum_by f xs + sum_by g xs
sum_by-plus f g [] = refl
sum_by-plus f g (x ∷ xs) = omega (arith, sum_by-cons (λ y. f y + g y) x xs, sum_by-cons f x xs, sum_by-cons g x xs, sum_by-plus f g xs)

sum_by-swap : {X Y : Type 0} (f : X → Y → ℕ) (xs : List X) (ys : List Y) → sum_by (λ x. sum_by (f x) ys) xs ≡ sum_by (λ y. sum_by (λ x. f x y) xs) ys
sum_by-swap f xs [] = sum_by-zero xs
sum_by-swap f xs (y ∷ ys) =
    sum_by-same (λ x. sum_by (f x) (y ∷ ys)) (λ x. f x y + sum_by (f x) ys) xs (λ x. sum_by-cons (f x) y ys)
    ∙ (sum_by-plus (λ x. f x y) (λ x. sum_by (f x) ys) xs
    ∙ (ap (λ k. sum_by (λ x. f x y) xs + k) (sum_by-swap f xs ys) ∙ sym (sum_by-cons (λ z. sum_by (λ x. f x z) xs) y ys)))

-- The labels are distinct.
abbrev AreDistinct : List (List ℕ) → Type 0
AreDistinct labels = AllPairs (λ (a b : List ℕ). a ≢ b) labels

distinct_tail : (x : List ℕ) (xs : List (List ℕ)) → AreDistinct (x ∷ xs) → AreDistinct xs
distinct_tail x xs h i j d lt within = h (suc i) (suc j) d (omega arith) (omega arith)

distinct_head : (x : List ℕ) (xs : List (List ℕ)) → AreDistinct (x ∷ xs) → (k : ℕ) (d : List ℕ) → k < length xs → x ≡ get_or xs k d → ⊥
distinct_head x xs h k d lt = h 0 (suc k) d (omega arith) (omega arith)

-- 1 if a label is the next one.
abbrev one_at : List ℕ → List ℕ → ℕ
one_at next label = cond (bytes_eq label next) 1 0

one_no : (next label : List ℕ) (b : Bool) → bytes_eq label next ≡ b → (label ≡ next → ⊥) → cond {A = ℕ} b 1 0 ≡ 0
one_no next label true e h = absurd (h (same_bytes label next e))
one_no next label false e h = refl

none_next : (next : List ℕ) (labels : List (List ℕ)) → ((k : ℕ) (d : List ℕ) → k < length labels → next ≡ get_or labels k d → ⊥) → sum_by (one_at next) labels ≡ 0
none_next next [] h = refl
none_next next (x ∷ xs) h =
    sum_by-cons (one_at next) x xs ∙ omega (arith, one_no next x (bytes_eq x next) refl (λ e. h 0 x (omega arith) (sym e)), none_next next xs (λ k d lt e. h (suc k) d (omega arith) e))

not_same : (x next : List ℕ) → bytes_eq x next ≡ false → x ≡ next → ⊥
not_same x next e s = let t : bytes_eq x next ≡ true = subst (λ y. bytes_eq x y ≡ true) s (bytes_eq-same x) in cc

one_step : (next x : List ℕ) (xs : List (List ℕ)) (b : Bool) → bytes_eq x next ≡ b → AreDistinct (x ∷ xs) → Contains (x ∷ xs) next
    → (Contains xs next → sum_by (one_at next) xs ≡ 1) → cond b 1 0 + sum_by (one_at next) xs ≡ 1
one_step next x xs true e distinct there later =
    let none : sum_by (one_at next) xs ≡ 0 = none_next next xs (λ k d lt s. distinct_head x xs distinct k d lt (same_bytes x next e ∙ s)) in omega arith
one_step next x xs false e distinct there later = let rest = later (Contains-tail x xs next (not_same x next e) there) in omega arith

one_next : (next : List ℕ) (labels : List (List ℕ)) → AreDistinct labels → Contains labels next → sum_by (one_at next) labels ≡ 1
one_next next [] distinct there = absurd (omega (arith, there.1))
one_next next (x ∷ xs) distinct there =
    sum_by-cons (one_at next) x xs ∙ one_step next x xs (bytes_eq x next) refl distinct there (one_next next xs (distinct_tail x xs distinct))

-- A position that passes counts for exactly one of the labels, if its next label is one of them.
at_position : (next : List ℕ) (labels : List (List ℕ)) (b : Bool) → AreDistinct labels → (b ≡ true → Contains labels next)
    → sum_by (λ label. cond (b && bytes_eq label next) 1 0) labels ≡ cond b 1 0
at_position next labels false distinct there = sum_by-zero labels
at_position next labels true distinct there = one_next next labels distinct (there refl)

-- The counts of the labels over n positions add up to the number of positions that pass.
by_positions : (t : ℕ → Bool) (next : ℕ → List ℕ) (labels : List (List ℕ)) (a n : ℕ) → AreDistinct labels → ((x : ℕ) → a ≤ x → x < a + n → t x ≡ true → Contains labels (next x))
    → sum_by (λ label. count_from (λ x. t x && bytes_eq label (next x)) a n) labels ≡ count_from t a n
by_positions t next labels a zero distinct there =
    sum_by-same (λ label. count_from (λ x. t x && bytes_eq label (next x)) a zero) (λ label. 0) labels (λ label. count-zero (λ x. t x && bytes_eq label (next x)) a)
    ∙ (sum_by-zero labels ∙ sym (count-zero t a))
by_positions t next labels a (suc n) distinct there =
    sum_by-same (λ label. count_from (λ x. t x && bytes_eq label (next x)) a (suc n)) (λ label. cond (t a && bytes_eq label (next a)) 1 0 + count_from (λ x. t x && bytes_eq label (next x)) (a + 1) n) labels
    (λ label. count-suc (λ x. t x && bytes_eq label (next x)) a n)
    ∙ (sum_by-plus (λ label. cond (t a && bytes_eq label (next a)) 1 0) (λ label. count_from (λ x. t x && bytes_eq label (next x)) (a + 1) n) labels
    ∙ omega (
      arith,
      at_position (next a) labels (t a) distinct (there a (omega arith) (omega arith)),
      by_positions t next labels (a + 1) n distinct (λ x low high. there x (omega arith) (omega arith)),
      count-suc t a n,
    ))

-- A size, counted over the positions that pass a test.
abbrev size_at : (ℕ → Bool) → (ℕ → List (List ℕ)) → Option (List ℕ → Bool) → ℕ → List (List ℕ) → ℕ
size_at gate path filter n prefix = count_from (λ x. gate x && counts_for filter prefix (path x)) 0 n

module _ (gate : ℕ → Bool) (path : ℕ → List (List ℕ)) (filter : Option (List ℕ → Bool)) (n : ℕ) (prefix : List (List ℕ)) (longer : (x : ℕ) → length prefix < length (path x)) where
  abbrev next : ℕ → List ℕ
  next x = get_or (path x) (length prefix) []

  abbrev here : ℕ → Bool
  here x = gate x && counts_for filter prefix (path x)

  child : (label : List ℕ) (x : ℕ) → (gate x && counts_for filter (prefix ++ label ∷ []) (path x)) ≡ (here x && bytes_eq label (next x))
  child label x = ap (λ b. gate x && b) (counts_for-push filter prefix (path x) label [] (longer x)) ∙ sym (and_assoc (gate x) (counts_for filter prefix (path x)) (bytes_eq label (next x)))

  child_size : (label : List ℕ) → size_at gate path filter n (prefix ++ label ∷ []) ≡ count_from (λ x. here x && bytes_eq label (next x)) 0 n
  child_size label = count-same (λ x. gate x && counts_for filter (prefix ++ label ∷ []) (path x)) (λ x. here x && bytes_eq label (next x)) 0 n (λ x low high. child label x)

  has_size : (x : ℕ) → x < n → here x ≡ true → 0 < size_at gate path filter n (prefix ++ next x ∷ [])
  has_size x lt h =
      count-some (λ y. gate y && counts_for filter (prefix ++ next x ∷ []) (path y)) 0 n x (omega arith) (omega arith)
      (child (next x) x ∙ (ap (λ b. b && bytes_eq (next x) (next x)) h ∙ bytes_eq-same (next x)))

  add_up : (labels : List (List ℕ)) → AreDistinct labels → ((label : List ℕ) → 0 < size_at gate path filter n (prefix ++ label ∷ []) → Contains labels label)
      → sum_by (λ label. size_at gate path filter n (prefix ++ label ∷ [])) labels ≡ size_at gate path filter n prefix
  add_up labels distinct complete =
      sum_by-same (λ label. size_at gate path filter n (prefix ++ label ∷ [])) (λ label. count_from (λ x. here x && bytes_eq label (next x)) 0 n) labels child_size
      ∙ by_positions here next labels 0 n distinct (λ x low high h. complete (next x) (has_size x (omega arith) h))

-- The same over a list of files, if it holds for each file.
over_files : (size : List (List ℕ) → FileView → ℕ) (files : List FileView) (prefix labels : List (List ℕ))
    → All (λ (f : FileView). sum_by (λ (label : List ℕ). size (prefix ++ label ∷ []) f) labels ≡ size prefix f) files
    → sum_by (λ (f : FileView). sum_by (λ (label : List ℕ). size (prefix ++ label ∷ []) f) labels) files ≡ sum_by (size prefix) files
over_files size [] prefix labels each = refl
over_files size (f ∷ files) prefix labels each =
    let P : FileView → Type 0 = λ g. sum_by (λ (label : List ℕ). size (prefix ++ label ∷ []) g) labels ≡ size prefix g in
    let whole : FileView → ℕ = λ g. sum_by (λ (label : List ℕ). size (prefix ++ label ∷ []) g) labels in
    omega (arith, sum_by-cons whole f files, sum_by-cons (size prefix) f files, All-head P f files each, over_files size files prefix labels (All-tail P f files each))

files_add_up : (size : List (List ℕ) → FileView → ℕ) (files : List FileView) (prefix labels : List (List ℕ))
    → ((k : ℕ) (d : FileView) → k < length files → AreDistinct labels → ((label : List ℕ) → 0 < size (prefix ++ label ∷ []) (get_or files k d) → Contains labels label)
    → sum_by (λ (label : List ℕ). size (prefix ++ label ∷ []) (get_or files k d)) labels ≡ size prefix (get_or files k d))
    → HasChildren (λ p. sum_by (size p) files) prefix labels
    → sum_by (λ (label : List ℕ). sum_by (size (prefix ++ label ∷ [])) files) labels ≡ sum_by (size prefix) files
files_add_up size files prefix labels each children =
    sum_by-swap (λ (label : List ℕ). size (prefix ++ label ∷ [])) labels files
    ∙ over_files size files prefix labels (λ k d lt. each k d lt children.distinct (λ label some. children.complete label (omega (arith, get_or-le-sum_by (size (prefix ++ label ∷ [])) files k d lt))))

pub ChildrenAddUp-all : (filter : Option (List ℕ → Bool)) (files : List FileView) (prefix labels : List (List ℕ)) → HaveLongerPaths files prefix → ChildrenAddUp filter files prefix labels
ChildrenAddUp-all filter files prefix labels longer = record {
  file = files_add_up (file_size_in filter) files prefix labels (λ k d lt distinct complete.
      let f = get_or files k d in
      add_up (λ o. true) (offset_path f) filter f.len prefix (λ o. omega (arith, longer k d lt, length-map f.sources (label_of_offset f o))) labels distinct complete);
  vm = files_add_up (vm_size_in filter) files prefix labels (λ k d lt distinct complete.
      let f = get_or files k d in
      add_up (is_mapped f.loads) (position_path f) filter (2 ^ 96) prefix (λ p. omega (arith, longer k d lt, length-map f.sources (label_of_address f (space_of p) (address_of p)))) labels distinct complete);
}
