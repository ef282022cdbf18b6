-- Claims keep their texts while labels are added.
use Rattle.std.proofs.Common.{◌≡◌, ℕ, Bool, true, false, cond, suc, ◌<◌, ◌≤◌, List, [], ◌∷◌, ◌++◌, length, get_or, take, Some, map, subst, inl, inr, refl, sym, ap, ◌∙◌, append_assoc, length-append, arith}
use Rattle.std.specs.Prelude.{slice_get}
use Rattle.std.proofs.lemmas.List.{map-append, append-nil, get_or_append_left, get_or-map, length-map, take-append-le}
use Rattle.std.proofs.lemmas.List.Folds.{list_any_at}
use Rattle.std.proofs.lemmas.Option.{get_or_from_slice_get, slice_get-get_or, slice_get_within}
use Rattle.std.specs.List.{Contains}
use Rattle.std.proofs.lemmas.Bool.{cases_lt}
use Rattle.std.proofs.lemmas.List.Elements.{All-push, Contains-append_left, Contains-push}
use Rattle.std.proofs.lemmas.Slice.Eq.{bytes_eq-Decides}
use Rattle.std.specs.Str.{bytes_eq}
use Rattle.size_core.specs.declared.claim.Claim.{Claim}
use Rattle.size_core.specs.Labels.{has_label, with_label}
use Rattle.size_model.specs.declared.view.LabelledClaim.{LabelledClaim}
use Rattle.size_model.specs.Numbered.{labelled, text_of}
use Rattle.claim_sheet.specs.declared.reach.Reach.{Reach}
use Rattle.claim_sheet.specs.declared.labels.ClaimLabel.{ClaimLabel}
use Rattle.claim_sheet.specs.declared.labels.ClaimLabel.TheVariants.{OfClaim}
use Rattle.claim_sheet.specs.Known.{HasClaim, label_at, label_text}
use Rattle.claim_sheet.specs.Made.{AreNumbered, IsNumber, KeepsLabels, Pushes, texts}
use Rattle.claim_sheet.specs.Reaches.{claim_of}

pub kept-texts : (old new : List (List ℕ)) (claims : List Claim) → KeepsLabels old new → AreNumbered old claims → texts new claims ≡ texts old claims
kept-texts old new [] kept numbered = refl
kept-texts old new (c ∷ claims) kept numbered =
    let head : text_of new c.label ≡ text_of old c.label = rw kept.is (get_or_append_left old kept.more [] c.label (numbered 0 c (omega arith))) in
    let tail = kept-texts old new claims kept (λ k d lt. numbered (suc k) d (omega arith)) in
    rw (head, tail) refl

pub kept-none : (pool : List (List ℕ)) → KeepsLabels pool pool
kept-none pool = record { more = []; is = sym (append-nil pool) }

pub kept-more : (a b c : List (List ℕ)) → KeepsLabels a b → KeepsLabels b c → KeepsLabels a c
kept-more a b c first next = record { more = first.more ++ next.more; is = next.is ∙ rw first.is (append_assoc a first.more next.more) }

pub kept-length : (old new : List (List ℕ)) → KeepsLabels old new → length old ≤ length new
kept-length old new kept = omega (arith, ap length kept.is, length-append old kept.more)

-- the first labels don't change
pub same-first : (first : ℕ) (old new : List (List ℕ)) → first ≤ length old → KeepsLabels old new → take first new ≡ take first old
same-first first old new within kept = rw kept.is (take-append-le first old kept.more within)

-- the number of a label that the pool has
pub same_number : (pool : List (List ℕ)) (label : List ℕ) (i : ℕ) → slice_get pool i ≡ Some label → IsNumber pool pool label i
same_number pool label i named = record { kept = kept-none pool; is = named; only = λ k low high. absurd (omega arith) }

-- a label that the pool didn't have gets the next number
found-last : (pool : List (List ℕ)) (label : List ℕ) (i : ℕ) → has_label pool label ≡ false → slice_get (pool ++ label ∷ []) i ≡ Some label → length pool ≤ i
found-last pool label i lacks named = elim (cases_lt i (length pool)) [
  | inl lt ↦
      let is : get_or pool i [] ≡ label = sym (get_or_append_left pool (label ∷ []) [] i lt) ∙ get_or_from_slice_get (pool ++ label ∷ []) i label [] named in
      let there : has_label pool label ≡ true = list_any_at (bytes_eq label) pool i [] lt ((bytes_eq-Decides label _).1 (sym is)) in cc (there, lacks)
  | inr le ↦ le
]

pub interned : (pool new : List (List ℕ)) (label : List ℕ) (i : ℕ) → new ≡ with_label pool label → slice_get new i ≡ Some label → IsNumber pool new label i
interned pool new label i grown named = rw grown (by_test (has_label pool label) refl (rw grown at named))
  where
    by_test : (b : Bool) → has_label pool label ≡ b → slice_get (cond b pool (pool ++ label ∷ [])) i ≡ Some label → IsNumber pool (cond b pool (pool ++ label ∷ [])) label i
    by_test true has named = same_number pool label i named
    by_test false lacks named =
        let last = found-last pool label i lacks named in
        let within = slice_get_within (pool ++ label ∷ []) i label named in
        record { kept = record { more = label ∷ []; is = refl }; is = named; only = λ k low high. omega (arith, length-append pool (label ∷ [])) }

-- the number of the label of a claim
pub number_there : (pool : List (List ℕ)) (claims : List Claim) (l : ClaimLabel) (i : ℕ) (c : Claim) → l ≡ OfClaim i → HasClaim (texts pool claims) l → AreNumbered pool claims
    → IsNumber pool pool (label_text (texts pool claims) l) (get_or claims i c).label
number_there pool claims l i c is there numbered =
    let within : i < length (texts pool claims) = rw is at there in
    let lt : i < length claims = omega (arith, length-map claims (labelled pool)) in
    let text : label_at (texts pool claims) i ≡ text_of pool (get_or claims i c).label =
    get_or-map (λ (x : LabelledClaim). x.label) (texts pool claims) i (labelled pool c) [] within
    ∙ ap (λ (x : LabelledClaim). x.label) (get_or-map (labelled pool) claims i c (labelled pool c) lt) in
    rw (is, text) (same_number pool (text_of pool (get_or claims i c).label) (get_or claims i c).label (slice_get-get_or pool (get_or claims i c).label [] (numbered i c lt)))

-- a claim is pushed with the number of its label
pub pushes : (old new : List (List ℕ)) (before room after : List Claim) (reach : Reach) (label : List ℕ) (number : ℕ) → AreNumbered old before → IsNumber old new label number
    → room ≡ before → after ≡ room ++ (record { side = reach.side; vm = reach.vm; file = reach.file; label = number }) ∷ [] → Pushes old new before after (claim_of reach label)
pushes old new before room after reach label number numbered is same added =
    let c : Claim = record { side = reach.side; vm = reach.vm; file = reach.file; label = number } in
    let still : AreNumbered new before = λ k d lt. (let was = numbered k d lt in let more = kept-length old new is.kept in omega arith) in
    let text : text_of new number ≡ label = get_or_from_slice_get new number label [] is.is in
    let numbers : map (λ (c : Claim). c.label) (before ++ c ∷ []) ≡ map (λ (c : Claim). c.label) before ++ number ∷ [] = map-append (λ (c : Claim). c.label) before (c ∷ []) in
    rw (added, same) record {
      kept = is.kept;
      made = rw (map-append (labelled new) before (c ∷ []), kept-texts old new before is.kept numbered, text) refl;
      numbered = All-push (λ c. c.label < length new) before c still (slice_get_within new number label is.is);
      used = λ first used k low high. subst (λ (ns : List ℕ). Contains ns k) (sym numbers) elim (cases_lt k (length old)) [
        | inl lt ↦ Contains-append_left (map (λ (c : Claim). c.label) before) (number ∷ []) k (used k low lt)
        | inr le ↦ subst (λ n. Contains (map (λ (c : Claim). c.label) before ++ number ∷ []) n) (sym (is.only k le high)) (Contains-push (map (λ (c : Claim). c.label) before) number)
      ];
    }
