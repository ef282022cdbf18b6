-- What the first failing check of a list means.
use Rattle.std.proofs.Common.{◌≡◌, ℕ, zero, suc, ◌+◌, ◌<◌, List, [], ◌∷◌, ◌++◌, get_or, Ok, Err, refl, sym, ap, arith}
use Rattle.std.specs.Prelude.{MatchResult}
use Rattle.size_core.specs.declared.fault.BadFile.{BadFile}
use Rattle.size_core.specs.Checks.{◌>>◌, Check, each, FailsFirst, AllHold, IsFirstFault, first_of, list_of}

pub is_first : (cs : List Check) (e : BadFile) → first_of cs ≡ Err e → (k : ℕ) × FailsFirst cs e k
is_first [] e h = cc
is_first (Ok x ∷ cs) e h =
    let rest = is_first cs e h in
    (suc rest.0, record { there = omega (arith, rest.1.there); fails = rest.1.fails; before = λ j lt. before_here cs rest.0 j lt rest.1.before })
  where
    before_here : (cs : List Check) (k j : ℕ) → j < suc k → ((j : ℕ) → j < k → get_or cs j (Ok tt) ≡ Ok tt) → get_or (Ok tt ∷ cs) j (Ok tt) ≡ Ok tt
    before_here cs k zero lt h = refl
    before_here cs k (suc j) lt h = h j (omega arith)
is_first (Err f ∷ cs) e h = (0, record { there = omega arith; fails = h; before = λ j lt. absurd (omega arith) })

pub first_of_append : (cs ds : List Check) → first_of (cs ++ ds) ≡ (first_of cs >> first_of ds)
first_of_append [] ds = refl
first_of_append (Ok x ∷ cs) ds = first_of_append cs ds
first_of_append (Err e ∷ cs) ds = refl

pub each_is : (check : ℕ → Check) (i count : ℕ) → first_of (list_of check i count) ≡ each check i count
unfolding list_of each
each_is check i zero = refl
each_is check i (suc count) = ap (λ (r : Check). check i >> r) (each_is check (i + 1) count)

pub all_hold : (cs : List Check) → first_of cs ≡ Ok tt → AllHold cs
all_hold [] h j lt = absurd (omega arith)
all_hold (Ok x ∷ cs) h zero lt = refl
all_hold (Ok x ∷ cs) h (suc j) lt = all_hold cs h j (omega arith)
all_hold (Err e ∷ cs) h j lt = cc

-- What it means that a result is the first failing check of a list.
pub means : (r : Check) (cs : List Check) → r ≡ first_of cs → MatchResult r (λ _. AllHold cs) (IsFirstFault cs)
means (Ok x) cs h = all_hold cs (sym h)
means (Err e) cs h = is_first cs e (sym h)
