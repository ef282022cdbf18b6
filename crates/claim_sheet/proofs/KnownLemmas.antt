-- Claims keep their positions while more are added, and can be added again.
use Rattle.std.proofs.Common.{◌≡◌, ℕ, Bool, true, false, suc, ◌+◌, ◌-◌, ◌<◌, ◌≤◌, List, [], ◌∷◌, ◌++◌, length, get_or, drop, Option, Some, None, Result, Ok, Err, refl, sym, ap, ◌∙◌, length-append, length-drop, arith}
use Rattle.std.specs.Prelude.{nat_lt, if◌then◌else◌}
use Rattle.std.proofs.lemmas.Grind.{common_steps}
use Rattle.std.proofs.Math.Seq.{drop-append_seam}
use Rattle.std.proofs.lemmas.List.{drop-append-le, drop_more, take-append-le, take_all}
use Rattle.size_core.specs.declared.fault.BadFile.{BadFile}
use Rattle.size_model.specs.declared.view.LabelledClaim.{LabelledClaim}
use Rattle.claim_sheet.specs.Known.{AreAdded, HasLabel, IsKnownBy, claims_between}
use Rattle.claim_sheet.specs.Sheets.{Sheet, adding, adding_one, adding_read, is_taken, keeping}
use Rattle.claim_sheet.proofs.SheetLemmas.{adding_grows, adding_left, adding_more, adding_none, kept_at, not-below, past_at, taken}

abbrev L : Type 0
L = LabelledClaim

-- a label that is known before claims are added is known after that
still_there : (made more : List L) (label : List ℕ) (i : ℕ) → HasLabel made label i → HasLabel (made ++ more) label i
still_there made more label i has =
    let within = has.within in
    let is = has.is in
    record { within = omega (arith, length-append made more); is = grind (arith, common_steps) }

pub known_after : (s t : Sheet) (xs : List L) (label : List ℕ) (claim : Option ℕ) → t ≡ adding s xs → IsKnownBy s.made label claim → IsKnownBy t.made label claim
known_after s t xs label None e known = tt
known_after s t xs label (Some i) e known = let grows = adding_grows s xs in rw (e, grows.is) (still_there s.made grows.more label i known)

-- the same where the claims were read
pub known_read : (s t : Sheet) (r : Result (List L) BadFile) (label : List ℕ) (claim : Option ℕ) → adding_read s r ≡ Ok t → IsKnownBy s.made label claim → IsKnownBy t.made label claim
known_read s t (Ok xs) label claim e known = let same : t ≡ adding s xs = cc in known_after s t xs label claim same known
known_read s t (Err b) label claim e known = cc e

-- a claim that was kept has the next position
pushed_there : (made : List L) (c : L) → HasLabel (made ++ c ∷ []) c.label (length made)
pushed_there made c = record { within = omega (arith, length-append made (c ∷ [])); is = grind (arith, common_steps) }

noted-one : (a b : Bool) (s : Sheet) (c : L) → length s.made < length (if a then (if b then kept_at s c else past_at s) else s).made
    → HasLabel (if a then (if b then kept_at s c else past_at s) else s).made c.label (length s.made)
noted-one true true s c more = pushed_there s.made c
noted-one true false s c more = absurd (omega (arith, more))
noted-one false b s c more = absurd (omega (arith, more))

pub noted : (s t : Sheet) (c : L) → t ≡ adding s (c ∷ []) → length s.made < length t.made → HasLabel t.made c.label (length s.made)
unfolding adding
noted s t c e more = rw e (noted-one (is_taken s.addresses_only c.side) (nat_lt (length s.made) s.limit) s c (rw e at more))

-- if a claim was dropped, adding claims changes nothing
over-one : (b : Bool) (s : Sheet) (x : L) → s.over ≡ true → s.limit ≤ length s.made → (if b then keeping s x else s) ≡ s
over-one true s x over full = rw (not-below (length s.made) s.limit full) (ap (λ (o : Bool). record s { over = o }) (sym over))
over-one false s x over full = refl

pub adding_over : (s : Sheet) (xs : List L) → s.over ≡ true → s.limit ≤ length s.made → adding s xs ≡ s
unfolding adding
adding_over s [] over full = refl
adding_over s (x ∷ xs) over full = rw (over-one (is_taken s.addresses_only x.side) s x over full) (adding_over s xs over full)

-- claims that the sheet doesn't take may be left out
again-one : (P : Sheet → Type 0) (a b : Bool) (s : Sheet) (x : L) → P s → P (kept_at s x) → P (past_at s) → P (if a then (if b then kept_at s x else past_at s) else s)
again-one P true true s x left kept past = kept
again-one P true false s x left kept past = past
again-one P false b s x left kept past = left

again-if : (b : Bool) (s : Sheet) (x : L) (xs ys : List L) → is_taken s.addresses_only x.side ≡ b → adding s ys ≡ adding s xs → adding (adding_one s x) ys ≡ adding (adding_one s x) xs
    → adding s (if b then x ∷ ys else ys) ≡ adding (adding_one s x) xs
unfolding adding
again-if true s x xs ys is left one = one
again-if false s x xs ys is left one = left ∙ ap (λ (t : Sheet). adding t xs) (sym (adding_left s x is))

taken_again : (s : Sheet) (xs : List L) → adding s (taken s.addresses_only xs) ≡ adding s xs
unfolding adding
taken_again s [] = refl
taken_again s (x ∷ xs) =
    again-if (is_taken s.addresses_only x.side) s x xs (taken s.addresses_only xs) refl (taken_again s xs)
    (again-one (λ t. adding t (taken s.addresses_only xs) ≡ adding t xs) (is_taken s.addresses_only x.side) (nat_lt (length s.made) s.limit) s x (taken_again s xs) (taken_again (kept_at s x) xs) (taken_again (past_at s) xs))

-- claims that were added from the state s on are between its number of claims and the present one
between_all : (old ys : List L) → claims_between (old ++ ys) (length old) (length (old ++ ys)) ≡ ys
between_all old ys = rw (drop-append_seam old ys) (take_all (length (old ++ ys) - length old) ys (omega (arith, length-append old ys)))

pub added_now : (s t : Sheet) (xs : List L) → t ≡ adding s xs → AreAdded t (length s.made) (length t.made) xs
added_now s t xs e =
    let grows = adding_grows s xs in
    rw e record {
      order = omega (arith, ap length grows.is, length-append s.made grows.more);
      within = omega arith;
      are = λ few. rw (grows.is, grows.all few, grows.only) (between_all s.made (taken s.addresses_only xs));
    }

between_grows : (old more : List L) (first end : ℕ) → first ≤ end → end ≤ length old → claims_between (old ++ more) first end ≡ claims_between old first end
between_grows old more first end order within =
    rw (drop-append-le first old more (omega arith)) (take-append-le (end - first) (drop first old) more (omega (arith, length-drop first old)))

pub added_after : (s t : Sheet) (xs : List L) (first end : ℕ) (claims : List L) → t ≡ adding s xs → AreAdded s first end claims → AreAdded t first end claims
added_after s t xs first end claims e added =
    let grows = adding_grows s xs in
    rw e record {
      order = added.order;
      within = let before = added.within in omega (arith, ap length grows.is, length-append s.made grows.more);
      are = λ few. rw (grows.is, grows.only) (between_grows s.made grows.more first end added.order added.within ∙ added.are (grows.still few));
    }

-- adding them again
pub added_again : (s t : Sheet) (first end : ℕ) (claims : List L) → s.over ≡ false → t ≡ adding s (claims_between s.made first end) → AreAdded s first end claims → t ≡ adding s claims
added_again s t first end claims few e added = e ∙ ap (adding s) (added.are few) ∙ taken_again s claims

-- the loop over the claims that are added again
pub repeat_goes : (s t : Sheet) (c : L) (i end : ℕ) → i < end → end ≤ length s.made → ((d : L) → get_or s.made i d ≡ c) → t ≡ adding s (c ∷ [])
    → adding t (claims_between t.made (i + 1) end) ≡ adding s (claims_between s.made i end)
repeat_goes s t c i end lt within at e =
    let grows = adding_grows s (c ∷ []) in
    let later : claims_between t.made (i + 1) end ≡ claims_between s.made (i + 1) end = rw (e, grows.is) (between_grows s.made grows.more (i + 1) end (omega arith) within) in
    let count : end - i ≡ suc (end - (i + 1)) = omega arith in
    let whole : claims_between s.made i end ≡ c ∷ claims_between s.made (i + 1) end = rw (count, drop_more s.made i c (omega arith), at c) refl in
    rw (later, whole, e) (adding_more s (c ∷ []) (claims_between s.made (i + 1) end))

pub repeat_ends : (z s : Sheet) (i end : ℕ) → end ≤ i → adding s (claims_between z.made i end) ≡ s
repeat_ends z s i end le = let count : end - i ≡ 0 = omega arith in rw count (adding_none s)
