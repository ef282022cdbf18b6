use Rattle.std.proofs.Common.{◌≡◌, ◌≢◌, ◌==◌, ◌<◌, ◌∙◌, ◌⊎◌, ◌||◌, inl, inr, nat_lt, ℕ, suc, Bool, true, false, List, [], ◌∷◌, ◌++◌, length, get_or, refl, sym, ap, ap₂, ◌+◌, append_assoc, arith, if◌then◌else◌}
use Rattle.std.specs.List.{list_any}
use Rattle.std.proofs.lemmas.Bool.Decides.{nat_tests}
use Rattle.size_options.specs.Values.{begun_by, names_in}
use Rattle.clap.specs.Words.{Text}

differs : (x : ℕ) → x ≢ 44 → (x == 44) ≡ false
differs x h = grind (arith, nat_tests)

-- A name ends at the first comma.
pub cut : (a b : List ℕ) → ((i : ℕ) → i < length a → get_or a i 0 ≢ 44) → names_in (a ++ 44 ∷ b) ≡ a ∷ names_in b
cut [] b h = refl
cut (x ∷ a) b h =
    ap (λ (t : Bool). if t then [] ∷ names_in (a ++ 44 ∷ b) else begun_by x (names_in (a ++ 44 ∷ b))) (differs x (h 0 (omega arith)))
    ∙ ap (begun_by x) (cut a b (λ i lt. h (suc i) (omega arith)))

-- If there is no comma, the name is the whole text.
pub uncut : (a : List ℕ) → ((i : ℕ) → i < length a → get_or a i 0 ≢ 44) → names_in a ≡ a ∷ []
uncut [] h = refl
uncut (x ∷ a) h =
    ap (λ (t : Bool). if t then [] ∷ names_in a else begun_by x (names_in a)) (differs x (h 0 (omega arith)))
    ∙ ap (begun_by x) (uncut a (λ i lt. h (suc i) (omega arith)))

pub more_names : (text left name rest : List ℕ) (names new : List Text) {item : Text} → names_in text ≡ names ++ names_in left
    → left ≡ name ++ 44 ∷ rest → ((i : ℕ) → i < length name → get_or name i 0 ≢ 44) → item ≡ name → new ≡ names ++ item ∷ []
    → names_in text ≡ new ++ names_in rest
more_names text left name rest names new before parts clean is pushed =
    before ∙ ap (λ (l : Text). names ++ names_in l) parts ∙ ap (λ (ls : List Text). names ++ ls) (cut name rest clean)
    ∙ sym (append_assoc names (name ∷ []) (names_in rest))
    ∙ ap (λ (l : Text). (names ++ l ∷ []) ++ names_in rest) (sym is) ∙ ap (λ (ls : List Text). ls ++ names_in rest) (sym pushed)

pub last_name : (text left : List ℕ) (names new : List Text) (item : Text) → names_in text ≡ names ++ names_in left
    → ((i : ℕ) → i < length left → get_or left i 0 ≢ 44) → item ≡ left → new ≡ names ++ item ∷ [] → new ≡ names_in text
last_name text left names new item before clean is pushed =
    pushed ∙ ap (λ (l : Text). names ++ l ∷ []) is ∙ sym (before ∙ ap (λ (ls : List Text). names ++ ls) (uncut left clean))

begun_some : (c : ℕ) (names : List Text) → 0 < length (begun_by c names)
begun_some c [] = omega arith
begun_some c (name ∷ names) = omega arith

-- There is a name in each text.
pub some_name : (t : Text) → 0 < length (names_in t)
some_name [] = omega arith
some_name (c ∷ cs) = go (c == 44)
  where
    go : (b : Bool) → 0 < length (if b then [] ∷ names_in cs else begun_by c (names_in cs))
    go true = omega arith
    go false = begun_some c (names_in cs)

-- ---- whether the list is a bad one, name by name

-- A name is empty, or there are more than `room` names.
abbrev pub is_bad_within : ℕ → List Text → Bool
is_bad_within room names = list_any (λ n. length n == 0) names || nat_lt room (length names)

named : (n : ℕ) → n ≢ 0 → (n == 0) ≡ false
named n h = grind (arith, nat_tests)

one_less : (room less n : ℕ) → room ≡ less + 1 → nat_lt room (suc n) ≡ nat_lt less n
one_less room less n is = go (nat_lt less n) refl
  where
    go : (b : Bool) → nat_lt less n ≡ b → nat_lt room (suc n) ≡ b
    go true h = grind (arith, nat_tests)
    go false h = grind (arith, nat_tests)

-- A name that isn't empty takes one of the `room` names.
pub passes : (room less : ℕ) (left name rest : Text) → left ≡ name ++ 44 ∷ rest → ((i : ℕ) → i < length name → get_or name i 0 ≢ 44)
    → length name ≢ 0 → room ≡ less + 1 → is_bad_within room (names_in left) ≡ is_bad_within less (names_in rest)
passes room less left name rest parts clean some is =
    let names = names_in rest in
    ap (λ (l : Text). is_bad_within room (names_in l)) parts ∙ ap (is_bad_within room) (cut name rest clean)
    ∙ ap₂ (λ (a b : Bool). (a || list_any (λ n. length n == 0) names) || b) (named _ some) (one_less room less (length names) is)

or_true : (a : Bool) → (a || true) ≡ true
or_true true = refl
or_true false = refl

more : (n : ℕ) → 0 < n → nat_lt 1 (suc n) ≡ true
more n h = grind (arith, nat_tests)

-- An empty name, or a name that takes the last of the `room` names before another one.
pub stops : (room : ℕ) (left name rest : Text) → left ≡ name ++ 44 ∷ rest → ((i : ℕ) → i < length name → get_or name i 0 ≢ 44)
    → (length name ≡ 0) ⊎ (room ≡ 1) → is_bad_within room (names_in left) ≡ true
stops room left name rest parts clean why =
    ap (λ (l : Text). is_bad_within room (names_in l)) parts ∙ ap (is_bad_within room) (cut name rest clean) ∙ go why
  where
    go : (length name ≡ 0) ⊎ (room ≡ 1) → is_bad_within room (name ∷ names_in rest) ≡ true
    go (inl empty) = ap (λ (n : ℕ). (n == 0 || list_any (λ n. length n == 0) (names_in rest)) || nat_lt room (suc (length (names_in rest)))) empty
    go (inr last) =
        ap (λ (n : ℕ). (length name == 0 || list_any (λ n. length n == 0) (names_in rest)) || nat_lt n (suc (length (names_in rest)))) last
        ∙ ap (λ (b : Bool). (length name == 0 || list_any (λ n. length n == 0) (names_in rest)) || b) (more _ (some_name rest))
        ∙ or_true _

no_more : (n : ℕ) → 0 < n → nat_lt n 1 ≡ false
no_more n h = grind (arith, nat_tests)

alone : (b : Bool) → ((b || false) || false) ≡ b
alone true = refl
alone false = refl

-- The last name is all of the rest.
pub ends : (room : ℕ) (left : Text) → ((i : ℕ) → i < length left → get_or left i 0 ≢ 44) → 0 < room
    → is_bad_within room (names_in left) ≡ (length left == 0)
ends room left clean some =
    ap (is_bad_within room) (uncut left clean)
    ∙ ap (λ (b : Bool). ((length left == 0) || false) || b) (no_more room some) ∙ alone _
