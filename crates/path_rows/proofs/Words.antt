-- Words of paths in order.
use Rattle.std.proofs.Common.{◌≡◌, ◌+◌, ◌*◌, ◌-◌, ◌^◌, ◌<◌, ◌≤◌, ℕ, zero, suc, Bool, true, false, cond, nat_lt, List, [], ◌∷◌, refl, sym, ap, subst, ◌∙◌, inl, inr, ◌⊎◌, arith}
use Rattle.std.specs.Cmp.Lexicographic.{slice_cmp}
use Rattle.std.specs.Ordering.{nat_cmp, ordering_reverse, ordering_then}
use Rattle.std.specs.declared.cmp.Ordering.TheVariants.{Less, Equal}
use Rattle.std.proofs.lemmas.Bool.{cases_eq}
use Rattle.std.proofs.lemmas.Bool.Decides.{nat_tests}
use Rattle.path_rows.specs.Paths.{path_cmp}
use Rattle.path_rows.specs.Words.{word_after, word_of}
use Rattle.path_rows.proofs.Paths.{nat_greater, nat_less, nat_same, path_total}

-- The next digit, and what comes after it.
abbrev digit : Bool → ℕ → ℕ
digit true x = x
digit false x = 255

abbrev later : Bool → List ℕ → List ℕ
later true xs = xs
later false xs = []

step : (b : Bool) (w n x : ℕ) (xs : List ℕ) → cond b (word_after (w * 256 + x) n xs) (word_after (w * 256 + 255) n []) ≡ word_after (w * 256 + digit b x) n (later b xs)
step true w n x xs = refl
step false w n x xs = refl

small : (b : Bool) (x : ℕ) → nat_lt x 255 ≡ b → digit b x ≤ 255
small true x e = grind (arith, nat_tests)
small false x e = omega arith

-- The lesser number has the lesser word, whatever bytes come after it.
rises : (n v w : ℕ) (xs ys : List ℕ) → v < w → word_after v n xs < word_after w n ys
rises zero v w xs ys lt = lt
rises (suc n) v w [] [] lt = rises n (v * 256) (w * 256) [] [] (omega arith)
rises (suc n) v w [] (y ∷ ys) lt =
    subst (λ k. word_after (v * 256) n [] < k) (sym (step (nat_lt y 255) w n y ys)) (rises n (v * 256) (w * 256 + digit (nat_lt y 255) y) [] (later (nat_lt y 255) ys) (omega arith))
rises (suc n) v w (x ∷ xs) [] lt =
    subst (λ k. k < word_after (w * 256) n []) (sym (step (nat_lt x 255) v n x xs)) (rises n (v * 256 + digit (nat_lt x 255) x) (w * 256) (later (nat_lt x 255) xs) [] (omega (arith, small (nat_lt x 255) x refl)))
rises (suc n) v w (x ∷ xs) (y ∷ ys) lt =
    subst (λ k. k < word_after w (suc n) (y ∷ ys)) (sym (step (nat_lt x 255) v n x xs))
    (subst (λ k. word_after (v * 256 + digit (nat_lt x 255) x) n (later (nat_lt x 255) xs) < k) (sym (step (nat_lt y 255) w n y ys))
    (rises n (v * 256 + digit (nat_lt x 255) x) (w * 256 + digit (nat_lt y 255) y) (later (nat_lt x 255) xs) (later (nat_lt y 255) ys) (omega (arith, small (nat_lt x 255) x refl))))

not_less : (xs : List ℕ) → slice_cmp nat_cmp xs [] ≡ Less → ⊥
not_less [] e = cc
not_less (x ∷ xs) e = cc

head_less : (x y : ℕ) (xs ys : List ℕ) → x < y → slice_cmp nat_cmp (x ∷ xs) (y ∷ ys) ≡ Less
head_less x y xs ys lt = ap (λ o. ordering_then o (slice_cmp nat_cmp xs ys)) (nat_less x y lt)

head_same : (x y : ℕ) (xs ys : List ℕ) → x ≡ y → slice_cmp nat_cmp (x ∷ xs) (y ∷ ys) ≡ slice_cmp nat_cmp xs ys
head_same x y xs ys e = ap (λ o. ordering_then o (slice_cmp nat_cmp xs ys)) (nat_same x y e)

-- What is known of a shorter list: if its word is less than that of another list, the list is less.
abbrev Again : ℕ → List ℕ → Type 0
Again n xs = (w : ℕ) (ys : List ℕ) → word_after w n xs < word_after w n ys → slice_cmp nat_cmp xs ys ≡ Less

-- Of two lists after the same number, the one with the lesser word is less.
pub less_after : (n w : ℕ) (xs ys : List ℕ) → word_after w n xs < word_after w n ys → slice_cmp nat_cmp xs ys ≡ Less
less_after zero w xs ys lt = absurd (omega (arith, lt))
less_after (suc n) w [] [] lt = absurd (omega (arith, lt))
less_after (suc n) w [] (y ∷ ys) lt = refl
less_after (suc n) w (x ∷ xs) [] lt = absurd (by_digit (λ u zs. less_after n u xs zs) (nat_lt x 255) refl (cases_eq x 0))
  where
    by_digit : Again n xs → (b : Bool) → nat_lt x 255 ≡ b → ((x ≡ 0) ⊎ (x ≡ 0 → ⊥)) → ⊥
    by_digit again true e (inl none) =
        let same : word_after w (suc n) (x ∷ xs) ≡ word_after (w * 256) n xs = ap (λ b. cond b (word_after (w * 256 + x) n xs) (word_after (w * 256 + 255) n [])) e ∙ ap (λ k. word_after k n xs) (let k : w * 256 + x ≡ w * 256 = omega (arith, none) in k) in
        not_less xs (again (w * 256) [] (subst (λ k. k < word_after (w * 256) n []) same lt))
    by_digit again true e (inr some) =
        let same : word_after w (suc n) (x ∷ xs) ≡ word_after (w * 256 + x) n xs = ap (λ b. cond b (word_after (w * 256 + x) n xs) (word_after (w * 256 + 255) n [])) e in
        let more = rises n (w * 256) (w * 256 + x) [] xs (omega arith) in
        omega (arith, same, more, lt)
    by_digit again false e zeros =
        let same : word_after w (suc n) (x ∷ xs) ≡ word_after (w * 256 + 255) n [] = ap (λ b. cond b (word_after (w * 256 + x) n xs) (word_after (w * 256 + 255) n [])) e in
        let more = rises n (w * 256) (w * 256 + 255) [] [] (omega arith) in
        omega (arith, same, more, lt)
less_after (suc n) w (x ∷ xs) (y ∷ ys) lt = by_digits (λ u zs. less_after n u xs zs) (nat_lt x 255) (nat_lt y 255) refl refl (cases_eq x y)
  where
    at : (b : Bool) (z : ℕ) (zs : List ℕ) → nat_lt z 255 ≡ b → word_after w (suc n) (z ∷ zs) ≡ word_after (w * 256 + digit b z) n (later b zs)
    at b z zs e = step (nat_lt z 255) w n z zs ∙ ap (λ c. word_after (w * 256 + digit c z) n (later c zs)) e

    wrong : (a b : Bool) → nat_lt x 255 ≡ a → nat_lt y 255 ≡ b → digit b y < digit a x → slice_cmp nat_cmp (x ∷ xs) (y ∷ ys) ≡ Less
    wrong a b ex ey more = absurd (omega (arith, lt, at a x xs ex, at b y ys ey, rises n (w * 256 + digit b y) (w * 256 + digit a x) (later b ys) (later a xs) (omega arith)))

    by_digits : Again n xs → (a b : Bool) → nat_lt x 255 ≡ a → nat_lt y 255 ≡ b → ((x ≡ y) ⊎ (x ≡ y → ⊥)) → slice_cmp nat_cmp (x ∷ xs) (y ∷ ys) ≡ Less
    by_digits again true true ex ey (inl same) =
        let next : word_after (w * 256 + x) n ys ≡ word_after (w * 256 + y) n ys = ap (λ z. word_after (w * 256 + z) n ys) same in
        head_same x y xs ys same ∙ again (w * 256 + x) ys (omega (arith, lt, at true x xs ex, at true y ys ey, next))
    by_digits again true true ex ey (inr differ) = by_order (Rattle.std.proofs.lemmas.Bool.cases_order x y)
      where
        by_order : ((x ≡ y) ⊎ ((x < y) ⊎ (y < x))) → slice_cmp nat_cmp (x ∷ xs) (y ∷ ys) ≡ Less
        by_order (inl same) = absurd (differ same)
        by_order (inr (inl less)) = head_less x y xs ys less
        by_order (inr (inr more)) = wrong true true ex ey more
    by_digits again true false ex ey e =
        let below : x < 255 = grind (arith, nat_tests) in
        let above : 255 ≤ y = grind (arith, nat_tests) in
        head_less x y xs ys (omega arith)
    by_digits again false true ex ey e = wrong false true ex ey (let below : y < 255 = grind (arith, nat_tests) in below)
    by_digits again false false ex ey e = absurd (omega (arith, lt, at false x xs ex, at false y ys ey))

pub less_words : (p q : List (List ℕ)) → word_of p < word_of q → path_cmp p q ≡ Less
less_words [] [] lt = absurd (omega (arith, lt))
less_words [] (l ∷ q) lt = refl
less_words (k ∷ p) [] lt = absurd (omega (arith, lt))
less_words (k ∷ p) (l ∷ q) lt = ap (λ o. ordering_then o (path_cmp p q)) (less_after 8 0 k l lt)

-- If the words of two paths differ, they compare as the paths do.
pub words_decide : (p q : List (List ℕ)) (v w : ℕ) → v ≡ word_of p → w ≡ word_of q → (nat_cmp v w ≡ Equal → ⊥) → nat_cmp v w ≡ path_cmp p q
words_decide p q v w first second differ = by_order (Rattle.std.proofs.lemmas.Bool.cases_order v w)
  where
    by_order : ((v ≡ w) ⊎ ((v < w) ⊎ (w < v))) → nat_cmp v w ≡ path_cmp p q
    by_order (inl same) = absurd (differ (nat_same v w same))
    by_order (inr (inl less)) = nat_less v w less ∙ sym (less_words p q (omega (arith, first, second, less)))
    by_order (inr (inr more)) = nat_greater v w more ∙ sym (path_total.antisymm p q ∙ ap ordering_reverse (less_words q p (omega (arith, first, second, more))))

-- With its next digit, a word of at most eight digits fits a u64.
pub record Holds (w n : ℕ) : Type 0 where
  pub fits : w * 256 + 255 < 2 ^ 64
  pub next : w * 256 + 255 < 256 ^ (8 - (n - 1))

pub holds : (w n : ℕ) → 0 < n → n ≤ 8 → w < 256 ^ (8 - n) → Holds w n
holds w zero some le lt = absurd (omega arith)
holds w (suc zero) some le lt = record { fits = omega arith; next = omega arith }
holds w (suc (suc zero)) some le lt = record { fits = omega arith; next = omega arith }
holds w (suc (suc (suc zero))) some le lt = record { fits = omega arith; next = omega arith }
holds w (suc (suc (suc (suc zero)))) some le lt = record { fits = omega arith; next = omega arith }
holds w (suc (suc (suc (suc (suc zero))))) some le lt = record { fits = omega arith; next = omega arith }
holds w (suc (suc (suc (suc (suc (suc zero)))))) some le lt = record { fits = omega arith; next = omega arith }
holds w (suc (suc (suc (suc (suc (suc (suc zero))))))) some le lt = record { fits = omega arith; next = omega arith }
holds w (suc (suc (suc (suc (suc (suc (suc (suc zero)))))))) some le lt = record { fits = omega arith; next = omega arith }
holds w (suc (suc (suc (suc (suc (suc (suc (suc (suc n))))))))) some le lt = absurd (omega (arith, le))
