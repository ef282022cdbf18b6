-- The checks of a file, step by step.
use Rattle.std.proofs.Common.{◌≡◌, ℕ, List, Ok, Err, refl, subst}
use Rattle.std.specs.Prelude.{Result, MatchResult}
use Rattle.size_core.specs.declared.fault.BadFile.{BadFile}
use Rattle.size_core.specs.Checks.{◌>>◌, Check, first_of, AllHold, IsFirstFault}
use Rattle.size_core.proofs.FirstFault.{first_of_append, means}
use Rattle.macho_records.specs.Layout.{header_len, command_count}
use Rattle.macho_records.specs.Header.{header_checks}
use Rattle.macho_file.specs.Checks.{opened, macho_checks}
use Rattle.macho_file.specs.Known.{commands_fit}

-- The file or its first fault, as the steps of opening it find them.
pub opened_is : (file : List ℕ) → opened file ≡ (first_of (header_checks file) >> commands_fit file (header_len file) (command_count file) >> Ok file)
unfolding macho_checks
opened_is file = simp first_of_append

-- The result of opening a file is Ok exactly if its checks hold, and otherwise the first fault.
pub means_opened : (file : List ℕ) (r : Result (List ℕ) BadFile) → r ≡ opened file → MatchResult r (λ _. AllHold (macho_checks file)) (IsFirstFault (macho_checks file))
means_opened file r e = answers r (first_of (macho_checks file)) e (means (first_of (macho_checks file)) (macho_checks file) refl)
  where
    answers : (r : Result (List ℕ) BadFile) (c : Check) → r ≡ (c >> Ok file) → MatchResult c (λ _. AllHold (macho_checks file)) (IsFirstFault (macho_checks file))
        → MatchResult r (λ _. AllHold (macho_checks file)) (IsFirstFault (macho_checks file))
    answers (Ok x) (Ok y) e h = h
    answers (Ok x) (Err f) e h = cc
    answers (Err f) (Ok y) e h = cc
    answers (Err f) (Err g) e h =
        let same : g ≡ f = cc in
        subst (IsFirstFault (macho_checks file)) same h
