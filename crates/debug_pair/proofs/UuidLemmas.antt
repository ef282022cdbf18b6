-- The first LC_UUID command.
use Rattle.std.proofs.Common.{◌≡◌, ℕ, suc, ◌+◌, ◌≤◌, ◌==◌, Bool, true, false, List, [], ◌∷◌, length, Some, None, refl, subst, arith}
use Rattle.std.specs.Prelude.{All, if◌then◌else◌}
use Rattle.std.specs.List.{find}
use Rattle.macho_file.specs.declared.command.Command.{Command}
use Rattle.macho_records.specs.declared.constants.TheConstants.{LC_UUID}
use Rattle.macho_file.specs.Commands.{commands}
use Rattle.macho_file.specs.WellFormed.{IsWellFormed, IsAmongCommands}
use Rattle.debug_pair.specs.Identities.{first_uuid}

pub uuid_here : (c : Command) (cs : List Command) → c.kind ≡ LC_UUID → first_uuid (c ∷ cs) ≡ Some c
unfolding first_uuid
uuid_here c cs is = rw is refl

pub uuid_later : (c : Command) (cs : List Command) → (c.kind == LC_UUID) ≡ false → first_uuid (c ∷ cs) ≡ first_uuid cs
unfolding first_uuid
uuid_later c cs is = rw is refl

pub uuid_none : first_uuid [] ≡ None
unfolding first_uuid
uuid_none = refl

-- What holds of all commands holds of the one that is found.
found_has : (P : Command → Type 0) (p : Command → Bool) (cs : List Command) (c : Command) → All P cs → find p cs ≡ Some c → P c
found_has P p [] c all is = cc
found_has P p (d ∷ cs) c all is = by_test (λ e. found_has P p cs c (λ k x lt. all (suc k) x (omega arith)) e) (p d) is
  where
    by_test : (find p cs ≡ Some c → P c) → (b : Bool) → (if b then Some d else find p cs) ≡ Some c → P c
    by_test rest true e = let same : d ≡ c = cc in subst P same (all 0 d (omega arith))
    by_test rest false e = rest e

-- The command lies in the file.
pub uuid_inside : (file : List ℕ) (c : Command) → IsWellFormed file → first_uuid (commands file) ≡ Some c → c.place + c.size ≤ length file
unfolding first_uuid
uuid_inside file c known is =
    let among : IsAmongCommands file c = found_has (IsAmongCommands file) (λ d. d.kind == LC_UUID) (commands file) c known.each_command is in
    omega (arith, among, known.commands_within)
