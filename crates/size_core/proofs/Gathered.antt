-- What a loop over numbers gathers, and the first number that it finds.
use Rattle.std.proofs.Common.{◌≡◌, ℕ, zero, suc, ◌+◌, ◌-◌, ◌<◌, ◌≤◌, Bool, true, false, Some, None, List, [], ◌++◌, refl, sym, append_assoc, arith}
use Rattle.std.proofs.lemmas.List.{append-nil}
use Rattle.size_core.specs.Gather.{gather, first_from}

pub gather_next : {X : Type 0} (front : List X) (f : ℕ → List X) (n i : ℕ) → i < n → front ++ gather f i (n - i) ≡ (front ++ f i) ++ gather f (i + 1) (n - (i + 1))
unfolding gather
gather_next front f n i lt = let k : n - i ≡ suc (n - (i + 1)) = omega arith in rw (k, append_assoc) refl

pub gather_end : {X : Type 0} (front : List X) (f : ℕ → List X) (n i : ℕ) → n ≤ i → front ++ gather f i (n - i) ≡ front
unfolding gather
gather_end front f n i le = let k : n - i ≡ 0 = omega arith in rw k (append-nil front)

pub first_next : (p : ℕ → Bool) (n i : ℕ) → i < n → p i ≡ false → first_from p i (n - i) ≡ first_from p (i + 1) (n - (i + 1))
unfolding first_from
first_next p n i lt fails = let k : n - i ≡ suc (n - (i + 1)) = omega arith in rw (k, fails) refl

pub first_here : (p : ℕ → Bool) (n i : ℕ) → i < n → p i ≡ true → first_from p i (n - i) ≡ Some i
unfolding first_from
first_here p n i lt passes = let k : n - i ≡ suc (n - (i + 1)) = omega arith in rw (k, passes) refl

pub first_end : (p : ℕ → Bool) (n i : ℕ) → n ≤ i → first_from p i (n - i) ≡ None
unfolding first_from
first_end p n i le = let k : n - i ≡ 0 = omega arith in rw k refl

-- The lists of two adjacent ranges of numbers, joined.
pub gather_append : {X : Type 0} (f : ℕ → List X) (a m n : ℕ) → gather f a (m + n) ≡ gather f a m ++ gather f (a + m) n
unfolding gather
gather_append f a zero n =
    let k : 0 + n ≡ n = omega arith in
    let at : a + 0 ≡ a = omega arith in
    rw (k, at) refl
gather_append f a (suc m) n =
    let k : suc m + n ≡ suc (m + n) = omega arith in
    let at : a + suc m ≡ a + 1 + m = omega arith in
    rw (k, at, gather_append f (a + 1) m n) (sym (append_assoc (f a) (gather f (a + 1) m) (gather f (a + 1 + m) n)))
