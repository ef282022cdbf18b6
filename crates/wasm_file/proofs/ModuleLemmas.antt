-- The checks of a module, step by step.
use Rattle.std.proofs.Common.{◌≡◌, ℕ, List, Ok, Err, refl, subst}
use Rattle.std.specs.Prelude.{Result, MatchResult}
use Rattle.size_core.specs.declared.fault.BadFile.{BadFile}
use Rattle.size_core.specs.Checks.{◌>>◌, Check, first_of, AllHold, IsFirstFault}
use Rattle.size_core.proofs.FirstFault.{first_of_append, means}
use Rattle.wasm_file.specs.Records.{under}
use Rattle.wasm_file.specs.Sections.{are_there}
use Rattle.wasm_file.specs.Module.{checked, module_checks, opened, start_of, version_checks}

-- The module or its first fault, as the steps of opening it find them.
pub opened_is : (file : List ℕ) → opened file ≡ under (first_of (version_checks file) >> are_there (start_of file)) file
unfolding module_checks are_there
opened_is file = simp first_of_append

-- A result under checks is Ok exactly if they hold, and otherwise the first fault.
pub means_checked : {X : Type 0} (checks : List Check) (x : X) (r : Result X BadFile) → r ≡ checked checks x → MatchResult r (λ _. AllHold checks) (IsFirstFault checks)
means_checked {X} checks x r e = answers r (first_of checks) e (means (first_of checks) checks refl)
  where
    answers : (r : Result X BadFile) (c : Check) → r ≡ under c x → MatchResult c (λ _. AllHold checks) (IsFirstFault checks) → MatchResult r (λ _. AllHold checks) (IsFirstFault checks)
    answers (Ok y) (Ok z) e h = h
    answers (Ok y) (Err f) e h = cc
    answers (Err f) (Ok z) e h = cc
    answers (Err f) (Err g) e h =
        let same : g ≡ f = cc in
        subst (IsFirstFault checks) same h

pub means_opened : (file : List ℕ) (r : Result (List ℕ) BadFile) → r ≡ opened file → MatchResult r (λ _. AllHold (module_checks file)) (IsFirstFault (module_checks file))
means_opened file r e = means_checked (module_checks file) file r e
