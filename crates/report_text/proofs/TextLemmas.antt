-- Texts that grow piece by piece.
use Rattle.std.proofs.Common.{◌≡◌, ℕ, ◌+◌, ◌<◌, List, [], ◌∷◌, ◌++◌, length, take, get_or, replicate, Some, slice_get, refl, sym, ap, ◌∙◌}
use Rattle.std.specs.List.{flat_map}
use Rattle.std.proofs.lemmas.List.{append-nil, append_assoc, take_more, flat_map_more, replicate_more}
use Rattle.std.proofs.lemmas.Option.{slice_get_within, get_or_from_slice_get}
use Rattle.report_text.specs.Labels.{escaped, escaped_byte}
use Rattle.report_text.specs.Numbers.{spaces}

-- Two pieces, one after the other.
pub join2 : (o p q a b : List ℕ) → p ≡ o ++ a → q ≡ p ++ b → q ≡ o ++ (a ++ b)
join2 o p q a b e f = f ∙ (ap (λ x. x ++ b) e ∙ append_assoc o a b)

-- A count that has come to its end.
pub until : {X : Type 0} (f : ℕ → List X) (p : List X) (i n : ℕ) → p ≡ f i → i ≡ n → p ≡ f n
until f p i n e at = e ∙ ap f at

pub fields-none : (o : List (List ℕ)) → o ≡ o ++ replicate 0 []
fields-none o = sym (append-nil o)

pub fields-more : (o p q : List (List ℕ)) (n : ℕ) → p ≡ o ++ replicate n [] → q ≡ p ++ [] ∷ [] → q ≡ o ++ replicate (n + 1) []
fields-more o p q n e f = f ∙ (ap (λ x. x ++ [] ∷ []) e ∙ (append_assoc o (replicate n []) ([] ∷ []) ∙ ap (λ x. o ++ x) (replicate_more n [])))

-- The names up to one more.
pub names-more : (p q all : List (List ℕ)) (i : ℕ) (x : List ℕ) → p ≡ take i all → slice_get all i ≡ Some x → q ≡ p ++ x ∷ [] → q ≡ take (i + 1) all
names-more p q all i x e is f =
    f ∙ (ap (λ y. y ++ x ∷ []) e ∙ (ap (λ y. take i all ++ y ∷ []) (sym (get_or_from_slice_get all i x x is)) ∙ sym (take_more all i x (slice_get_within all i x is))))

-- The rows up to one more.
pub rows-more : {X : Type 0} (f : X → List ℕ) (o p q : List ℕ) (xs : List X) (i : ℕ) (x : X) → p ≡ o ++ flat_map f (take i xs) → slice_get xs i ≡ Some x → q ≡ p ++ f x → q ≡ o ++ flat_map f (take (i + 1) xs)
rows-more f o p q xs i x e is g =
    g ∙ (ap (λ y. y ++ f x) e ∙ (flat_map_more f o (take i xs) x
    ∙ ap (λ y. o ++ flat_map f y) (ap (λ y. take i xs ++ y ∷ []) (sym (get_or_from_slice_get xs i x x is)) ∙ sym (take_more xs i x (slice_get_within xs i x is)))))

pub spaces-none : (o : List ℕ) → o ≡ o ++ spaces 0
unfolding spaces
spaces-none o = sym (append-nil o)

pub spaces-more : (o p q : List ℕ) (n : ℕ) → p ≡ o ++ spaces n → q ≡ p ++ 32 ∷ [] → q ≡ o ++ spaces (n + 1)
unfolding spaces
spaces-more o p q n e f = join2 o p q (replicate n 32) (32 ∷ []) e f ∙ ap (λ x. o ++ x) (replicate_more n 32)

pub escaped-none : (o : List ℕ) → o ≡ o ++ escaped []
unfolding escaped
escaped-none o = sym (append-nil o)

pub escaped-append : (a b : List ℕ) → escaped (a ++ b) ≡ escaped a ++ escaped b
unfolding escaped
escaped-append [] b = refl
escaped-append (x ∷ a) b = ap (λ t. escaped_byte x ++ t) (escaped-append a b) ∙ sym (append_assoc (escaped_byte x) (escaped a) (escaped b))

pub escaped-more : (o p q text : List ℕ) (i b d : ℕ) → i < length text → b ≡ get_or text i d → p ≡ o ++ escaped (take i text) → q ≡ p ++ escaped_byte b → q ≡ o ++ escaped (take (i + 1) text)
unfolding escaped
escaped-more o p q text i b d lt is e f =
    join2 o p q (escaped (take i text)) (escaped_byte b) e f
    ∙ ap (λ x. o ++ x) (flat_map_more escaped_byte [] (take i text) b ∙ ap escaped (ap (λ x. take i text ++ x ∷ []) is ∙ sym (take_more text i d lt)))

-- Three pieces of a text.
pub escaped3 : (o p q r a b c : List ℕ) → p ≡ o ++ escaped a → q ≡ p ++ escaped b → r ≡ q ++ escaped c → r ≡ o ++ escaped (a ++ (b ++ c))
escaped3 o p q r a b c e f g =
    let ab : q ≡ o ++ escaped (a ++ b) = join2 o p q (escaped a) (escaped b) e f ∙ ap (λ x. o ++ x) (sym (escaped-append a b)) in
    join2 o q r (escaped (a ++ b)) (escaped c) ab g ∙ ap (λ x. o ++ x) (sym (escaped-append (a ++ b) c) ∙ ap escaped (append_assoc a b c))
