-- How many numbers pass a test.
use Rattle.std.proofs.Common.{◌≡◌, ◌+◌, ◌<◌, ◌≤◌, ℕ, zero, suc, Bool, true, false, cond, ◌||◌, nat_eq, refl, sym, ap, ◌∙◌, inl, inr, arith}
use Rattle.std.proofs.lemmas.Bool.{cases_eq}
use Rattle.std.proofs.lemmas.Bool.Decides.{nat_tests}
use mir.Val.{bool_byte}
use Rattle.size_model.specs.Count.{count_from}

pub count-zero : (f : ℕ → Bool) (a : ℕ) → count_from f a 0 ≡ 0
unfolding count_from
count-zero f a = refl

pub count-suc : (f : ℕ → Bool) (a n : ℕ) → count_from f a (suc n) ≡ cond (f a) 1 0 + count_from f (a + 1) n
unfolding count_from
count-suc f a n = refl

-- Tests that agree have equal counts.
pub count-same : (f g : ℕ → Bool) (a n : ℕ) → ((x : ℕ) → a ≤ x → x < a + n → f x ≡ g x) → count_from f a n ≡ count_from g a n
count-same f g a zero h = count-zero f a ∙ sym (count-zero g a)
count-same f g a (suc n) h =
    count-suc f a n ∙ (ap (λ b. cond b 1 0 + count_from f (a + 1) n) (h a (omega arith) (omega arith)) ∙ (ap (λ k. cond (g a) 1 0 + k) (count-same f g (a + 1) n (λ x b c. h x (omega arith) (omega arith))) ∙ sym (count-suc g a n)))

pub count-append : (f : ℕ → Bool) (a m n : ℕ) → count_from f a (m + n) ≡ count_from f a m + count_from f (a + m) n
count-append f a zero n =
    let e : 0 + n ≡ n = omega arith in
    let k : a + 0 ≡ a = omega arith in
    rw (e, k, count-zero) (let r : count_from f a n ≡ 0 + count_from f a n = omega arith in r)
count-append f a (suc m) n =
    let e : suc m + n ≡ suc (m + n) = omega arith in
    let k : a + suc m ≡ a + 1 + m = omega arith in
    rw (e, k) (omega (arith, count-suc f a (m + n), count-suc f a m, count-append f (a + 1) m n))

pub count-none : (f : ℕ → Bool) (a n : ℕ) → ((x : ℕ) → a ≤ x → x < a + n → f x ≡ false) → count_from f a n ≡ 0
count-none f a zero h = count-zero f a
count-none f a (suc n) h =
    count-suc f a n ∙ (ap (λ b. cond b 1 0 + count_from f (a + 1) n) (h a (omega arith) (omega arith)) ∙ omega (arith, count-none f (a + 1) n (λ x b c. h x (omega arith) (omega arith))))

pub count-all : (f : ℕ → Bool) (a n : ℕ) → ((x : ℕ) → f x ≡ true) → count_from f a n ≡ n
count-all f a zero h = count-zero f a
count-all f a (suc n) h = count-suc f a n ∙ (ap (λ b. cond b 1 0 + count_from f (a + 1) n) (h a) ∙ omega (arith, count-all f (a + 1) n h))

-- A test that passes wherever another does has no smaller count.
pub count-le : (f g : ℕ → Bool) (a n : ℕ) → ((x : ℕ) → f x ≡ true → g x ≡ true) → count_from f a n ≤ count_from g a n
count-le f g a zero h = omega (arith, count-zero f a, count-zero g a)
count-le f g a (suc n) h = omega (arith, count-suc f a n, count-suc g a n, count-le f g (a + 1) n h, one_le (f a) (g a) (h a))
  where
    one_le : (b c : Bool) → (b ≡ true → c ≡ true) → cond b 1 0 ≤ cond c 1 0
    one_le false c h = omega arith
    one_le true true h = omega arith
    one_le true false h = absurd (let e = h refl in cc)

pub count-le-or : (f g : ℕ → Bool) (a n : ℕ) → count_from (λ x. f x || g x) a n ≤ count_from f a n + count_from g a n
count-le-or f g a zero = omega (arith, count-zero (λ x. f x || g x) a)
count-le-or f g a (suc n) = omega (arith, count-suc (λ x. f x || g x) a n, count-suc f a n, count-suc g a n, count-le-or f g (a + 1) n, one_or (f a) (g a))
  where
    one_or : (b c : Bool) → cond (b || c) 1 0 ≤ cond b 1 0 + cond c 1 0
    one_or true c = omega arith
    one_or false c = omega arith

-- A test for one number counts at most 1.
pub count-one-at : (k a n : ℕ) → count_from (λ x. nat_eq x k) a n ≤ 1
count-one-at k a zero = omega (arith, count-zero (λ x. nat_eq x k) a)
count-one-at k a (suc n) =
    elim (cases_eq a k) [
      | inl same ↦ omega (arith, count-suc (λ x. nat_eq x k) a n, one_le (nat_eq a k), count-none (λ x. nat_eq x k) (a + 1) n (λ x b c. grind (arith, nat_tests)))
      | inr other ↦ omega (arith, count-suc (λ x. nat_eq x k) a n, none (nat_eq a k) (grind (arith, nat_tests)), count-one-at k (a + 1) n)
    ]
  where
    one_le : (b : Bool) → cond b 1 0 ≤ 1
    one_le true = omega arith
    one_le false = omega arith

    none : (b : Bool) → b ≡ false → cond {A = ℕ} b 1 0 ≡ 0
    none true e = cc
    none false e = refl

pub count-le-length : (f : ℕ → Bool) (a n : ℕ) → count_from f a n ≤ n
count-le-length f a zero = omega (arith, count-zero f a)
count-le-length f a (suc n) = omega (arith, count-suc f a n, count-le-length f (a + 1) n, one_le (f a))
  where
    one_le : (b : Bool) → cond b 1 0 ≤ 1
    one_le true = omega arith
    one_le false = omega arith

-- A test that passes somewhere has a count above 0.
pub count-some : (f : ℕ → Bool) (a n x : ℕ) → a ≤ x → x < a + n → f x ≡ true → 0 < count_from f a n
count-some f a zero x b c e = absurd (omega arith)
count-some f a (suc n) x b c e =
    elim (cases_eq a x) [
      | inl same ↦ omega (arith, count-suc f a n, one (f a) (ap f same ∙ e))
      | inr other ↦ omega (arith, count-suc f a n, count-some f (a + 1) n x (omega arith) (omega arith) e)
    ]
  where
    one : (b : Bool) → b ≡ true → cond {A = ℕ} b 1 0 ≡ 1
    one true e = refl
    one false e = cc

-- The count of one number more.
pub count-more : (f : ℕ → Bool) (a n : ℕ) → count_from f a (n + 1) ≡ count_from f a n + cond (f (a + n)) 1 0
count-more f a n = omega (arith, count-append f a n 1, count-suc f (a + n) 0, count-zero f (a + n + 1))

-- A count over n numbers, plus 1 if a test holds, is at most n + 1.
pub byte_fits : (t : ℕ → Bool) (a n size : ℕ) (b : Bool) → size ≡ count_from t a n → size + bool_byte b ≤ n + 1
byte_fits t a n size b e = omega (arith, e, count-le-length t a n, byte_le b)
  where
    byte_le : (b : Bool) → bool_byte b ≤ 1
    byte_le true = omega arith
    byte_le false = omega arith

pub byte_more : (t : ℕ → Bool) (a n p size : ℕ) (b : Bool) → size ≡ count_from t a n → p ≡ a + n → b ≡ t p → size + bool_byte b ≡ count_from t a (n + 1)
byte_more t a n p size b e at here = omega (arith, e, count-more t a n, one_byte b, ap (λ c. cond {A = ℕ} c 1 0) (here ∙ ap t at))
  where
    one_byte : (b : Bool) → bool_byte b ≡ cond b 1 0
    one_byte true = refl
    one_byte false = refl
