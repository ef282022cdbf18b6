-- Prefixes of paths.
use Rattle.std.proofs.Common.{◌≡◌, ◌<◌, ℕ, Bool, true, false, ◌&&◌, List, [], ◌∷◌, ◌++◌, length, get_or, Option, refl, sym, ap, ◌∙◌, arith}
use Rattle.std.specs.List.{starts_with}
use Rattle.std.specs.Str.{bytes_eq}
use Rattle.std.proofs.Math.Bool.{and_assoc}
use Rattle.std.proofs.lemmas.Slice.Eq.{bytes_eq-Decides}
use Rattle.size_model.specs.Sizes.{passes, counts_for}

pub and_true : (b : Bool) → (b && true) ≡ b
and_true true = refl
and_true false = refl

pub and_left : (b c : Bool) → (b && c) ≡ true → b ≡ true
and_left true c h = refl
and_left false c h = h

pub and_right : (b c : Bool) → (b && c) ≡ true → c ≡ true
and_right true c h = h
and_right false c h = cc

pub bytes_eq-same : (xs : List ℕ) → bytes_eq xs xs ≡ true
bytes_eq-same xs = (bytes_eq-Decides xs xs).1 refl

pub same_bytes : (xs ys : List ℕ) → bytes_eq xs ys ≡ true → xs ≡ ys
same_bytes xs ys = (bytes_eq-Decides xs ys).0

-- A path begins with a prefix and one more label.
pub starts_with-push : (path prefix : List (List ℕ)) (label d : List ℕ) → length prefix < length path
    → starts_with bytes_eq path (prefix ++ label ∷ []) ≡ (starts_with bytes_eq path prefix && bytes_eq label (get_or path (length prefix) d))
starts_with-push [] prefix label d lt = absurd (omega arith)
starts_with-push (p ∷ ps) [] label d lt = and_true (bytes_eq label p)
starts_with-push (p ∷ ps) (q ∷ qs) label d lt =
    ap (λ b. bytes_eq q p && b) (starts_with-push ps qs label d (omega arith)) ∙ sym (and_assoc (bytes_eq q p) (starts_with bytes_eq ps qs) (bytes_eq label (get_or ps (length qs) d)))

-- A path counts for a prefix with one more label.
pub counts_for-push : (filter : Option (List ℕ → Bool)) (prefix path : List (List ℕ)) (label d : List ℕ) → length prefix < length path
    → counts_for filter (prefix ++ label ∷ []) path ≡ (counts_for filter prefix path && bytes_eq label (get_or path (length prefix) d))
counts_for-push filter prefix path label d lt =
    ap (λ b. passes filter path && b) (starts_with-push path prefix label d lt) ∙ sym (and_assoc (passes filter path) (starts_with bytes_eq path prefix) (bytes_eq label (get_or path (length prefix) d)))

cons_same : (x y : List ℕ) (xs ys : List (List ℕ)) → x ≡ y → xs ≡ ys → (x ∷ xs) ≡ (y ∷ ys)
cons_same x y xs ys a b = cc

-- Two prefixes of a path that have the same length are equal.
pub starts_with-unique : (path p q : List (List ℕ)) → length p ≡ length q → starts_with bytes_eq path p ≡ true → starts_with bytes_eq path q ≡ true → p ≡ q
starts_with-unique path [] [] e a b = refl
starts_with-unique path [] (y ∷ ys) e a b = absurd (omega arith)
starts_with-unique path (x ∷ xs) [] e a b = absurd (omega arith)
starts_with-unique [] (x ∷ xs) (y ∷ ys) e a b = cc
starts_with-unique (z ∷ zs) (x ∷ xs) (y ∷ ys) e a b =
    cons_same x y xs ys (same_bytes x z (and_left (bytes_eq x z) (starts_with bytes_eq zs xs) a) ∙ sym (same_bytes y z (and_left (bytes_eq y z) (starts_with bytes_eq zs ys) b)))
    (starts_with-unique zs xs ys (omega arith) (and_right (bytes_eq x z) (starts_with bytes_eq zs xs) a) (and_right (bytes_eq y z) (starts_with bytes_eq zs ys) b))

pub counts_for-unique : (filter : Option (List ℕ → Bool)) (path p q : List (List ℕ)) → length p ≡ length q → counts_for filter p path ≡ true → counts_for filter q path ≡ true → p ≡ q
counts_for-unique filter path p q e a b =
    starts_with-unique path p q e (and_right (passes filter path) (starts_with bytes_eq path p) a) (and_right (passes filter path) (starts_with bytes_eq path q) b)
