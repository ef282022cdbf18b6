-- The checks of sections and of commands, as loops make them.
use Rattle.std.proofs.Common.{◌≡◌, ℕ, suc, ◌+◌, ◌-◌, ◌<◌, ◌≤◌, List, [], ◌∷◌, Ok, Err, refl, ◌∙◌, arith}
use Rattle.size_core.specs.declared.fault.BadFile.{BadFile}
use Rattle.size_core.specs.Checks.{◌>>◌, first_of}
use Rattle.size_core.proofs.FirstFault.{first_of_append}
use Rattle.byte_cursor.specs.declared.encoding.Encoding.{Encoding}
use Rattle.macho_file.specs.Commands.{command_at, commands_from, section_len}
use Rattle.macho_file.specs.Tables.{section_at, sections_from}
use Rattle.macho_file.specs.Checks.{command_checks, section_fits}
use Rattle.macho_file.specs.Known.{commands_fit, sections_fit}

-- The first of the remaining sections, and the others.
pub sections_step : (file : List ℕ) (form : Encoding) (at n i : ℕ) → i < n
    → sections_from file form at (n - i) ≡ section_at file form at ∷ sections_from file form (at + section_len form) (n - (i + 1))
unfolding sections_from
sections_step file form at n i lt = let k : n - i ≡ suc (n - (i + 1)) = omega arith in rw k refl

pub sections_none : (file : List ℕ) (form : Encoding) (at n i : ℕ) → n ≤ i → sections_from file form at (n - i) ≡ []
unfolding sections_from
sections_none file form at n i le = let k : n - i ≡ 0 = omega arith in rw k refl

pub sections_next : (file : List ℕ) (form : Encoding) (at n i : ℕ) → i < n → section_fits file (section_at file form at) ≡ Ok tt
    → sections_fit file form at (n - i) ≡ sections_fit file form (at + section_len form) (n - (i + 1))
sections_next file form at n i lt fine = rw (sections_step file form at n i lt, fine) refl

pub sections_bad : (file : List ℕ) (form : Encoding) (at n i : ℕ) (e : BadFile) → i < n → section_fits file (section_at file form at) ≡ Err e
    → sections_fit file form at (n - i) ≡ Err e
sections_bad file form at n i e lt bad = rw (sections_step file form at n i lt, bad) refl

pub sections_end : (file : List ℕ) (form : Encoding) (at n i : ℕ) → n ≤ i → sections_fit file form at (n - i) ≡ Ok tt
sections_end file form at n i le = rw (sections_none file form at n i le) refl

-- The first of the remaining commands, and the others.
pub commands_step : (file : List ℕ) (place n i : ℕ) → i < n
    → commands_from file place (n - i) ≡ command_at file place ∷ commands_from file (place + (command_at file place).size) (n - (i + 1))
unfolding commands_from
commands_step file place n i lt = let k : n - i ≡ suc (n - (i + 1)) = omega arith in rw k refl

pub commands_none : (file : List ℕ) (place n i : ℕ) → n ≤ i → commands_from file place (n - i) ≡ []
unfolding commands_from
commands_none file place n i le = let k : n - i ≡ 0 = omega arith in rw k refl

commands_parts : (file : List ℕ) (place n i : ℕ) → i < n
    → commands_fit file place (n - i) ≡ (first_of (command_checks file (command_at file place)) >> commands_fit file (place + (command_at file place).size) (n - (i + 1)))
commands_parts file place n i lt = rw (commands_step file place n i lt, first_of_append) refl

pub commands_next : (file : List ℕ) (place n i : ℕ) → i < n → first_of (command_checks file (command_at file place)) ≡ Ok tt
    → commands_fit file place (n - i) ≡ commands_fit file (place + (command_at file place).size) (n - (i + 1))
commands_next file place n i lt fine = commands_parts file place n i lt ∙ rw fine refl

pub commands_bad : (file : List ℕ) (place n i : ℕ) (e : BadFile) → i < n → first_of (command_checks file (command_at file place)) ≡ Err e
    → commands_fit file place (n - i) ≡ Err e
commands_bad file place n i e lt bad = commands_parts file place n i lt ∙ rw bad refl

pub commands_end_here : (file : List ℕ) (place n i : ℕ) → n ≤ i → commands_fit file place (n - i) ≡ Ok tt
commands_end_here file place n i le = rw (commands_none file place n i le) refl
