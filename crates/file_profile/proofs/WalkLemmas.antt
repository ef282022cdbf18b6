-- The walk over the data sources of a file: the results so far, and those of the rest within what is left of the limit.
use Rattle.std.proofs.Common.{◌≡◌, ◌+◌, ◌-◌, ◌≤◌, ℕ, suc, List, [], ◌∷◌, ◌++◌, length, drop, Result, Ok, Err, Some, refl, sym, ap, ◌∙◌, append_assoc, arith}
use Rattle.std.specs.Prelude.{slice_get}
use Rattle.std.proofs.lemmas.List.{append-nil}
use Rattle.size_core.specs.declared.source.Source.{Source}
use Rattle.size_model.specs.declared.view.LabelledClaim.{LabelledClaim}
use Rattle.size_model.proofs.Firsts.{drop-get, drop-end}
use Rattle.file_profile.specs.declared.answer.SourceAnswer.{SourceAnswer}
use Rattle.file_profile.specs.Claims.{OpenedFile, claims_within, result_after, result_before, results_of}

-- Earlier results before others.
abbrev pub with_results : {X : Type 0} → List X → Result (List X) SourceAnswer → Result (List X) SourceAnswer
with_results xs (Ok others) = Ok (xs ++ others)
with_results xs (Err answer) = Err answer

pub results-none : {X : Type 0} (r : Result (List X) SourceAnswer) → r ≡ with_results [] r
results-none (Ok others) = refl
results-none (Err answer) = refl

results-more : {X : Type 0} (xs : List X) (x : X) (r : Result (List X) SourceAnswer) → with_results xs (result_before x r) ≡ with_results (xs ++ x ∷ []) r
results-more xs x (Ok others) = ap Ok (sym (append_assoc xs (x ∷ []) others))
results-more xs x (Err answer) = refl

module _ {A X : Type 0} (base : A → Source) (show : A → List LabelledClaim → X) (f : OpenedFile) (limit left i : ℕ) (asked : List A) (xs : List X) where
  abbrev pub IsRest : Type 0
  IsRest = results_of base show limit f asked ≡ with_results xs (results_of base show left f (drop i asked))

  -- The results from data source i on, by the result for its claims.
  rest-at : (a : A) (r : Result (List LabelledClaim) SourceAnswer) → IsRest → slice_get asked i ≡ Some a → claims_within left f (base a) ≡ r
      → results_of base show limit f asked ≡ with_results xs (result_after left (show a) (λ l. results_of base show l f (drop (suc i) asked)) r)
  rest-at a r rest at is =
      rest
      ∙ (ap (λ s. with_results xs (results_of base show left f s)) (drop-get asked i a at)
      ∙ ap (λ c. with_results xs (result_after left (show a) (λ l. results_of base show l f (drop (suc i) asked)) c)) is)

  pub rest-more : (a : A) (n : ℕ) (made : List LabelledClaim) → IsRest → slice_get asked i ≡ Some a → claims_within left f (base a) ≡ Ok made → n ≡ length made
      → results_of base show limit f asked ≡ with_results (xs ++ show a made ∷ []) (results_of base show (left - n) f (drop (i + 1) asked))
  rest-more a n made rest at are count =
      let next : suc i ≡ i + 1 = omega arith in
      rest-at a (Ok made) rest at are
      ∙ (results-more xs (show a made) (results_of base show (left - length made) f (drop (suc i) asked))
      ∙ ap (λ p. with_results (xs ++ show a made ∷ []) p) (rw (count, next) refl))

  pub rest-refused : (a : A) (answer : SourceAnswer) → IsRest → slice_get asked i ≡ Some a → claims_within left f (base a) ≡ Err answer → results_of base show limit f asked ≡ Err answer
  rest-refused a answer rest at is = rest-at a (Err answer) rest at is

  pub rest-none : IsRest → length asked ≤ i → results_of base show limit f asked ≡ Ok xs
  rest-none rest end = rest ∙ (ap (λ s. with_results xs (results_of base show left f s)) (drop-end asked i end) ∙ ap Ok (append-nil xs))
