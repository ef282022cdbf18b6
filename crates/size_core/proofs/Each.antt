-- Checks of one number after another, as a loop makes them.
use Rattle.std.proofs.Common.{◌≡◌, ℕ, zero, suc, ◌+◌, ◌-◌, ◌<◌, ◌≤◌, Ok, Err, refl, sym, ◌∙◌, inl, inr, arith}
use Rattle.std.proofs.lemmas.Bool.{cases_eq}
use Rattle.size_core.specs.declared.fault.BadFile.{BadFile}
use Rattle.size_core.specs.Checks.{◌>>◌, Check, each}

pub goes_on : (check : ℕ → Check) (n i : ℕ) (total : Check) → i < n → check i ≡ Ok tt → each check i (n - i) ≡ total → each check (i + 1) (n - (i + 1)) ≡ total
unfolding each
goes_on check n i total lt fine so_far =
    let k : n - i ≡ suc (n - (i + 1)) = omega arith in
    let one : each check i (n - i) ≡ each check (i + 1) (n - (i + 1)) = rw (k, fine) refl in
    sym one ∙ so_far

pub stops : (check : ℕ → Check) (n i : ℕ) (e : BadFile) (total : Check) → i < n → check i ≡ Err e → each check i (n - i) ≡ total → total ≡ Err e
unfolding each
stops check n i e total lt bad so_far =
    let k : n - i ≡ suc (n - (i + 1)) = omega arith in
    let one : each check i (n - i) ≡ Err e = rw (k, bad) refl in
    sym so_far ∙ one

pub is_done : (check : ℕ → Check) (n i : ℕ) (total : Check) → n ≤ i → each check i (n - i) ≡ total → total ≡ Ok tt
unfolding each
is_done check n i total le so_far =
    let k : n - i ≡ 0 = omega arith in
    let one : each check i (n - i) ≡ Ok tt = rw k refl in
    sym so_far ∙ one

both : (r s : Check) → (r >> s) ≡ Ok tt → (r ≡ Ok tt) × (s ≡ Ok tt)
both (Ok x) s h = (refl, h)
both (Err e) s h = cc

-- If the checks of count numbers hold together, the check of each of these numbers holds.
pub each_at : (check : ℕ → Check) (count i k : ℕ) → each check i count ≡ Ok tt → i ≤ k → k < i + count → check k ≡ Ok tt
unfolding each
each_at check zero i k h low high = absurd (omega arith)
each_at check (suc count) i k h low high =
    let parts = both (check i) (each check (i + 1) count) h in
    elim (cases_eq k i) [ inl same ↦ rw same parts.0 | inr other ↦ each_at check count (i + 1) k parts.1 (omega arith) (omega arith) ]

-- The same three laws, for a loop whose invariant is the equation.
pub each_next : (check : ℕ → Check) (n i : ℕ) → i < n → check i ≡ Ok tt → each check i (n - i) ≡ each check (i + 1) (n - (i + 1))
each_next check n i lt fine = sym (goes_on check n i (each check i (n - i)) lt fine refl)

pub each_bad : (check : ℕ → Check) (n i : ℕ) (e : BadFile) → i < n → check i ≡ Err e → each check i (n - i) ≡ Err e
each_bad check n i e lt bad = stops check n i e (each check i (n - i)) lt bad refl

pub each_end : (check : ℕ → Check) (n i : ℕ) → n ≤ i → each check i (n - i) ≡ Ok tt
each_end check n i le = is_done check n i (each check i (n - i)) le refl
