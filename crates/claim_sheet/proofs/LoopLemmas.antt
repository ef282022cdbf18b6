-- Loops over numbers or a list that add the claims of each item.
use Rattle.std.proofs.Common.{◌≡◌, ℕ, suc, ◌+◌, ◌-◌, ◌<◌, ◌≤◌, Bool, true, false, List, [], ◌∷◌, length, Result, Ok, Err, refl, sym, ap, ◌∙◌, arith}
use Rattle.std.specs.List.{flat_map}
use Rattle.std.specs.Prelude.{IsOkAnd}
use Rattle.size_core.specs.declared.fault.BadFile.{BadFile}
use Rattle.size_core.specs.Gather.{gather}
use Rattle.size_core.proofs.Gathered.{gather_next, gather_end}
use Rattle.size_model.specs.declared.view.LabelledClaim.{LabelledClaim}
use Rattle.std.specs.Result.{IsErrAnd}
use Rattle.std.proofs.lemmas.Result.{on_ok_weaker}
use Rattle.claim_sheet.specs.Adds.{AddsRead}
use Rattle.claim_sheet.specs.declared.stop.Stop.{Stop}
use Rattle.claim_sheet.specs.declared.stop.Stop.TheVariants.{Bad}
use Rattle.claim_sheet.specs.Read.{joined, read_each, read_list}
use Rattle.claim_sheet.specs.Sheets.{Sheet, adding, adding_read, fresh, fresh_on_addresses, read_on_addresses}
use Rattle.claim_sheet.proofs.SheetLemmas.{adding_none, adding_more, adding_grows, all_taken, taken}

module _ (f : ℕ → List LabelledClaim) where
  pub gather_goes : (s t : Sheet) (n i : ℕ) → i < n → t ≡ adding s (f i) → adding t (gather f (i + 1) (n - (i + 1))) ≡ adding s (gather f i (n - i))
  gather_goes s t n i lt e = rw (e, adding_more s (f i) (gather f (i + 1) (n - (i + 1)))) (ap (adding s) (sym (gather_next [] f n i lt)))

  pub gather_ends : (s : Sheet) (n i : ℕ) → n ≤ i → adding s (gather f i (n - i)) ≡ s
  gather_ends s n i le = ap (adding s) (gather_end [] f n i le) ∙ adding_none s

-- a loop over a list
module _ {A : Type 0} (f : A → List LabelledClaim) where
  pub list_goes : (s t : Sheet) (x : A) (xs : List A) → t ≡ adding s (f x) → adding t (flat_map f xs) ≡ adding s (flat_map f (x ∷ xs))
  list_goes s t x xs e = rw e (adding_more s (f x) (flat_map f xs))

abbrev pub Reading : Type 0
Reading = Result (List LabelledClaim) BadFile

pub read_joined : (s t : Sheet) (r q : Reading) → adding_read s r ≡ Ok t → adding_read s (joined r q) ≡ adding_read t q
unfolding joined
read_joined s t (Ok xs) (Ok ys) e = let same : t ≡ adding s xs = cc in rw same (ap Ok (sym (adding_more s xs ys)))
read_joined s t (Ok xs) (Err b) e = refl
read_joined s t (Err b) q e = cc

-- two readings one after the other have the fault of the first, or else that of the second
pub joined_front : (r q : Reading) (b : BadFile) → r ≡ Err b → joined r q ≡ Err b
unfolding joined
joined_front r q b e = rw e refl

pub bad_read : (s : Sheet) (r : Reading) (b : BadFile) → adding_read s r ≡ Err b → r ≡ Err b
bad_read s (Ok xs) b e = cc e
bad_read s (Err c) b e = cc e

module _ (f : ℕ → Reading) where
  read-next : (n i : ℕ) → i < n → read_each f i (n - i) ≡ joined (f i) (read_each f (i + 1) (n - (i + 1)))
  unfolding read_each
  read-next n i lt = let k : n - i ≡ suc (n - (i + 1)) = omega arith in rw k refl

  pub read_goes : (s t : Sheet) (n i : ℕ) → i < n → adding_read s (f i) ≡ Ok t → adding_read t (read_each f (i + 1) (n - (i + 1))) ≡ adding_read s (read_each f i (n - i))
  read_goes s t n i lt e = sym (ap (adding_read s) (read-next n i lt) ∙ read_joined s t (f i) _ e)

  pub read_ends : (s : Sheet) (n i : ℕ) → n ≤ i → adding_read s (read_each f i (n - i)) ≡ Ok s
  unfolding read_each
  read_ends s n i le = let k : n - i ≡ 0 = omega arith in rw k (ap Ok (adding_none s))

  pub read_stops : (s : Sheet) (n i : ℕ) (b : BadFile) → i < n → f i ≡ Err b → adding_read s (read_each f i (n - i)) ≡ Err b
  read_stops s n i b lt e = ap (adding_read s) (read-next n i lt ∙ joined_front (f i) _ b e)

module _ {A : Type 0} (f : A → Reading) where
  pub read_list_goes : (s t : Sheet) (x : A) (xs : List A) → adding_read s (f x) ≡ Ok t → adding_read t (read_list f xs) ≡ adding_read s (read_list f (x ∷ xs))
  unfolding read_list
  read_list_goes s t x xs e = sym (read_joined s t (f x) (read_list f xs) e)

  pub read_list_ends : (s : Sheet) → adding_read s (read_list f []) ≡ Ok s
  unfolding read_list
  read_list_ends s = ap Ok (adding_none s)

pub joined_later : (s t : Sheet) (r q : Reading) (b : BadFile) → adding_read s r ≡ Ok t → q ≡ Err b → joined r q ≡ Err b
unfolding joined
joined_later s t (Ok xs) q b e bad = rw bad refl
joined_later s t (Err c) q b e bad = cc e

pub joined_claims : (s t u : Sheet) (r : Reading) (xs : List LabelledClaim) → adding_read s r ≡ Ok t → u ≡ adding t xs → adding_read s (joined r (Ok xs)) ≡ Ok u
joined_claims s t u r xs e made = read_joined s t r (Ok xs) e ∙ ap Ok (sym made)

-- what a walk over numbers returns that stopped at one of them
pub read_stopped : {X Y : Type 0} (f : ℕ → Reading) (s t u : Sheet) (all : Reading) (n i : ℕ) (e : Stop) (r : Result Y Stop) → adding_read t (read_each f i (n - i)) ≡ adding_read s all → t.pool ≡ s.pool → i < n
    → AddsRead {X = X} (Err e) t u (f i) → IsErrAnd r (λ d. d ≡ e) → AddsRead r s u all
read_stopped f s t u all n i e (Ok v) rest kept lt adds same = absurd same
read_stopped f s t u all n i e (Err d) rest kept lt adds same = record {
  made = tt;
  bad = λ b is. let stop : e ≡ Bad b = cc in bad_read s all b (sym rest ∙ read_stops f t n i b lt (adds.bad b (ap Err stop)));
  kept = adds.kept ∙ kept;
}

-- a walk after another
pub joined_adds : {X : Type 0} (result : Result X Stop) (s t u : Sheet) (r q : Reading) → adding_read s r ≡ Ok t → t.pool ≡ s.pool → AddsRead result t u q → AddsRead result s u (joined r q)
joined_adds result s t u r q e kept adds =
    record { made = on_ok_weaker result (λ made. read_joined s t r q e ∙ made) adds.made; bad = λ b is. joined_later s t r q b e (adds.bad b is); kept = adds.kept ∙ kept }

-- the claims of a sheet that began empty: all that it takes, or there are more than the limit
abbrev begun : Bool → List (List ℕ) → ℕ → Sheet
begun only pool limit = record { pool = pool; limit = limit; addresses_only = only; made = []; over = false }

pub record Ended (limit : ℕ) (t : Sheet) (r : Reading) : Type 0 where
  pub limited : t.limit ≡ limit
  pub kept : t.over ≡ false → r ≡ Ok t.made
  pub past : t.over ≡ true → IsOkAnd r (λ made. limit < length made)

ended : (only : Bool) (pool : List (List ℕ)) (limit : ℕ) (s t : Sheet) (xs : List LabelledClaim) → s ≡ begun only pool limit → t ≡ adding s xs → Ended limit t (Ok (taken only xs))
ended only pool limit s t xs is e =
    let grows = adding_grows (begun only pool limit) xs in
    rw (e, is) record { limited = grows.limit; kept = λ few. ap Ok (sym (grows.is ∙ grows.all few)); past = λ over. (let many = grows.past refl over in omega arith) }

-- a sheet that takes every claim
pub ended_all : (pool : List (List ℕ)) (limit : ℕ) (s t : Sheet) (r : Reading) → s ≡ fresh pool limit → adding_read s r ≡ Ok t → Ended limit t r
ended_all pool limit s t (Ok xs) is e = rw (all_taken xs) at (ended false pool limit s t xs is cc)
ended_all pool limit s t (Err b) is e = cc e

-- a sheet that takes only claims on addresses
pub ended_on_addresses : (pool : List (List ℕ)) (limit : ℕ) (s t : Sheet) (r : Reading) → s ≡ fresh_on_addresses pool limit → adding_read s r ≡ Ok t → Ended limit t (read_on_addresses r)
ended_on_addresses pool limit s t (Ok xs) is e = ended true pool limit s t xs is cc
ended_on_addresses pool limit s t (Err b) is e = cc e
