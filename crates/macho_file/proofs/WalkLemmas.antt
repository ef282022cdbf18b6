-- The first of the remaining commands, and the others.
use Rattle.std.proofs.Common.{◌≡◌, ℕ, zero, suc, ◌+◌, ◌-◌, ◌<◌, ◌≤◌, true, List, [], ◌∷◌, length, Ok, Err, refl, sym, ◌∙◌, arith}
use Rattle.std.proofs.lemmas.Grind.{common_steps}
use Rattle.size_core.specs.Checks.{◌>>◌, Check, first_of}
use Rattle.size_core.proofs.FirstFault.{first_of_append}
use Rattle.byte_cursor.specs.declared.encoding.Encoding.{Encoding}
use Rattle.macho_file.specs.declared.command.Command.{Command}
use Rattle.macho_records.specs.declared.layout.TheConstants.{LOAD_COMMAND_LEN}
use Rattle.macho_file.specs.Commands.{command_at, commands_from, is_whole}
use Rattle.macho_file.specs.Checks.{command_checks}
use Rattle.macho_records.specs.Header.{HasHeader}
use Rattle.macho_file.specs.Known.{HasCommands, IsInside, commands_fit}

pub both : (r s : Check) → (r >> s) ≡ Ok tt → (r ≡ Ok tt) × (s ≡ Ok tt)
both (Ok x) s h = (refl, h)
both (Err e) s h = cc

parts : (file : List ℕ) (place n : ℕ) → commands_fit file place (suc n) ≡ (first_of (command_checks file (command_at file place)) >> commands_fit file (place + (command_at file place).size) n)
unfolding commands_from
parts file place n = rw first_of_append refl

split : (file : List ℕ) (place n : ℕ) → 0 < n → commands_fit file place n ≡ Ok tt
    → (first_of (command_checks file (command_at file place)) ≡ Ok tt) × (commands_fit file (place + (command_at file place).size) (n - 1) ≡ Ok tt)
split file place n some fit =
    let k : n ≡ suc (n - 1) = omega arith in
    let all : commands_fit file place (suc (n - 1)) ≡ Ok tt = rw (← k) fit in
    both (first_of (command_checks file (command_at file place))) (commands_fit file (place + (command_at file place).size) (n - 1)) (sym (parts file place (n - 1)) ∙ all)

whole : (file : List ℕ) (c : Command) → first_of (command_checks file c) ≡ Ok tt → is_whole file c ≡ true
unfolding command_checks
whole file c h = grind (arith, common_steps)

pub inside : (file : List ℕ) (e : Encoding) (c : Command) → HasHeader file e → first_of (command_checks file c) ≡ Ok tt → IsInside file c
unfolding is_whole
inside file e c header h =
    let w : is_whole file c ≡ true = whole file c h in
    record {
      least = grind (arith, common_steps);
      ends = grind (arith, common_steps);
      within = grind (arith, common_steps, header.ends);
    }

pub fits_here : (file : List ℕ) (e : Encoding) (place n : ℕ) → HasCommands file e place n → 0 < n → first_of (command_checks file (command_at file place)) ≡ Ok tt
fits_here file e place n known some = (split file place n some known.fit).0

pub is_inside : (file : List ℕ) (e : Encoding) (place n : ℕ) → HasCommands file e place n → 0 < n → IsInside file (command_at file place)
is_inside file e place n known some = inside file e (command_at file place) known.header (fits_here file e place n known some)

pub has_load_command : (file : List ℕ) (e : Encoding) (place n : ℕ) → HasCommands file e place n → 0 < n → place + LOAD_COMMAND_LEN ≤ length file
unfolding command_at is_whole
has_load_command file e place n known some =
    let w : is_whole file (command_at file place) ≡ true = whole file (command_at file place) (fits_here file e place n known some) in
    grind (arith, common_steps, known.header.ends)

pub goes_on : (file : List ℕ) (e : Encoding) (place n : ℕ) → HasCommands file e place n → 0 < n → HasCommands file e (place + (command_at file place).size) (n - 1)
goes_on file e place n known some = record { header = known.header; fit = (split file place n some known.fit).1 }

pub comes : (file : List ℕ) (place n : ℕ) → 0 < n → commands_from file place n ≡ command_at file place ∷ commands_from file (place + (command_at file place).size) (n - 1)
unfolding commands_from
comes file place zero some = absurd (omega arith)
comes file place (suc n) some = let k : suc n - 1 ≡ n = omega arith in rw k refl

pub is_over : (file : List ℕ) (place n : ℕ) → n ≡ 0 → commands_from file place n ≡ []
unfolding commands_from
is_over file place n none = rw none refl
