-- Claims within a limit, and calls that make them.
use Rattle.std.proofs.Common.{◌≡◌, ◌+◌, ◌-◌, ◌<◌, ◌≤◌, ℕ, Bool, true, false, cond, nat_lt, List, [], ◌∷◌, ◌++◌, length, Result, Ok, Err, refl, sym, ap, ◌∙◌, length-append, arith}
use Rattle.std.specs.Prelude.{IsErrAnd, Vec}
use Rattle.std.specs.declared.alloc.Global.{Global}
use Rattle.std.proofs.lemmas.Bool.Decides.{nat_tests}
use Rattle.std.proofs.lemmas.List.{length-map, map-append}
use Rattle.std.proofs.lemmas.List.Elements.{All-append}
use Rattle.size_core.specs.declared.claim.Claim.{Claim}
use Rattle.size_core.specs.Labels.{has_label, with_label}
use Rattle.size_model.specs.declared.view.LabelledClaim.{LabelledClaim}
use Rattle.size_model.specs.Numbered.{labelled}
use Rattle.claim_sheet.specs.Made.{AreNumbered, KeepsLabels, texts}
use Rattle.claim_sheet.proofs.MadeLemmas.{kept-length, kept-more, kept-none, kept-texts}
use Rattle.file_profile.specs.declared.answer.SourceAnswer.{SourceAnswer}
use Rattle.file_profile.specs.declared.answer.SourceAnswer.TheVariants.{TooManyClaims}
use Rattle.file_profile.specs.Claims.{claims_after, within}
use Rattle.file_profile.specs.Numbering.{AreClaims}
use Rattle.file_profile.specs.Results.{IsExpected, Yields}

-- A value whose number is within a limit, or an error if the number exceeds it.
pub choice-ok : {X E : Type 0} (b : Bool) (e : E) (x y : X) → ◌≡◌ {A = Result X E} (cond b (Err e) (Ok x)) (Ok y) → (b ≡ false) × (x ≡ y)
choice-ok true e x y is = let wrong : ⊥ = cc in absurd wrong
choice-ok false e x y is = (refl, cc)

-- A call that returns a value.
pub yields-made : {X Y : Type 0} {S : Y → X → Type 0} {expected : Result Y SourceAnswer} {x : X} → IsExpected S expected x → Yields S expected (Ok x)
yields-made made = record { made = made; refused = λ answer some e. cc }

-- A call that ends with the error of another call.
pub refused-as : {X Y A B : Type 0} {S : A → X → Type 0} {T : B → Y → Type 0} {expected : Result A SourceAnswer} {other : Result B SourceAnswer} {answer : SourceAnswer} (r : Result Y SourceAnswer)
    → ((a : SourceAnswer) → expected ≡ Err a → other ≡ Err a) → IsErrAnd r (λ e. e ≡ answer) → Yields S expected (Err answer) → Yields T other r
refused-as (Ok y) next is yields = absurd is
refused-as (Err e) next is yields = record { made = tt; refused = λ a some at. next a (yields.refused a some (cc)) }

-- A label is added to a pool.
kept-choice : (b : Bool) (pool : List (List ℕ)) (label : List ℕ) → KeepsLabels pool (cond b pool (pool ++ label ∷ []))
kept-choice true pool label = kept-none pool
kept-choice false pool label = record { more = label ∷ []; is = refl }

pub kept-label : (pool new : List (List ℕ)) (label : List ℕ) → new ≡ with_label pool label → KeepsLabels pool new
kept-label pool new label is = rw is (kept-choice (has_label pool label) pool label)

pub kept-same : (pool new : List (List ℕ)) → new ≡ pool → KeepsLabels pool new
kept-same pool new is = rw is (kept-none pool)

-- How calls keep the labels of a pool, one after the other.
pub ruleset keeping = (kept-label, kept-same, kept-more)

-- Claims after others, within the rest of the limit.
choice-after : (b : Bool) (first others : List LabelledClaim) → cond b (Err TooManyClaims) (Ok (first ++ others)) ≡ claims_after first (cond b (Err TooManyClaims) (Ok others))
choice-after true first others = refl
choice-after false first others = refl

same-test : (limit n a b : ℕ) → a ≤ limit → n ≡ a + b → nat_lt limit n ≡ nat_lt (limit - a) b
same-test limit n a b le is = grind (arith, nat_tests)

within-after : (limit : ℕ) (first : List LabelledClaim) (r : Result (List LabelledClaim) SourceAnswer) → length first ≤ limit
    → within limit (claims_after first r) ≡ claims_after first (within (limit - length first) r)
within-after limit first (Ok others) few =
    ap (λ b. cond b (Err TooManyClaims) (Ok (first ++ others))) (same-test limit (length (first ++ others)) (length first) (length others) few (length-append first others))
    ∙ choice-after (nat_lt (limit - length first) (length others)) first others
within-after limit first (Err answer) few = refl

module _ (limit n : ℕ) (old : List (List ℕ)) (first : Vec Claim Global) (r : Result (List LabelledClaim) SourceAnswer) (few : length first.items ≤ limit) (is : n ≡ length first.items) where
  after-is : within limit (claims_after (texts old first.items) r) ≡ claims_after (texts old first.items) (within (limit - n) r)
  after-is =
      let size : length (texts old first.items) ≡ length first.items = length-map first.items (labelled old) in
      within-after limit (texts old first.items) r (omega arith) ∙ ap (λ m. claims_after (texts old first.items) (within (limit - m) r)) (size ∙ sym is)

  pub after-made : (new : List (List ℕ)) (own all : Vec Claim Global) → KeepsLabels old new → AreNumbered old first.items → all.items ≡ first.items ++ own.items
      → IsExpected (AreClaims new) (within (limit - n) r) own → IsExpected (AreClaims new) (within limit (claims_after (texts old first.items) r)) all
  after-made new own all kept numbered joined made = record {
    made = texts old first.items ++ made.made;
    are = after-is ∙ ap (claims_after (texts old first.items)) made.are;
    shown = record {
      are = rw (joined, map-append (labelled new) first.items own.items, kept-texts old new first.items kept numbered, made.shown.are) refl;
      numbered = rw joined (All-append (λ (c : Claim). c.label < length new) first.items own.items (λ k d lt. omega (arith, numbered k d lt, kept-length old new kept)) made.shown.numbered);
    };
  }
