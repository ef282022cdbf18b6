-- The remaining ranges of the link-edit data, and the commands that have them.
use Rattle.std.proofs.Common.{◌≡◌, ℕ, zero, suc, ◌+◌, ◌<◌, ◌≤◌, Bool, true, false, Option, Some, None, List, [], ◌∷◌, ◌++◌, length, drop, slice_get, refl, arith}
use Rattle.std.proofs.lemmas.Grind.{common_steps}
use Rattle.std.proofs.lemmas.Option.{slice_get_within}
use Rattle.std.specs.List.{flat_map}
use Rattle.macho_records.specs.declared.layout.TheConstants.{LOAD_COMMAND_LEN}
use Rattle.macho_records.specs.declared.link_edit.LinkEdit.{LinkEdit}
use Rattle.macho_records.specs.declared.link_edit.LinkEditPart.{LinkEditPart}
use Rattle.macho_records.specs.Kinds.{data_kind, least_by_kind}
use Rattle.macho_records.specs.LinkEdit.{data_parts, parts_at}
use Rattle.macho_file.specs.declared.command.Command.{Command}
use Rattle.macho_file.specs.Commands.{is_segment, least_size}
use Rattle.macho_file.specs.Known.{IsInside}
use Rattle.macho_file.specs.LinkEdit.{parts_of, parts_of_some}

-- The ranges of the current command from number next on, and then those of the remaining commands.
abbrev pub to_come : List ℕ → Option Command → ℕ → List Command → List LinkEditPart
to_come file command next cs = drop next (parts_of_some file command) ++ flat_map (parts_of file) cs

some_left : {X : Type 0} (xs : List X) (i : ℕ) (x : X) → slice_get xs i ≡ Some x → drop i xs ≡ x ∷ drop (i + 1) xs
some_left [] i x h = cc
some_left (y ∷ ys) zero x h = cc
some_left (y ∷ ys) (suc i) x h = let k : suc i + 1 ≡ suc (i + 1) = omega arith in rw k (some_left ys i x h)

none_left : {X : Type 0} (xs : List X) (i : ℕ) → slice_get xs i ≡ None → drop i xs ≡ []
none_left [] zero h = refl
none_left [] (suc i) h = refl
none_left (y ∷ ys) zero h = cc
none_left (y ∷ ys) (suc i) h = none_left ys i h

pub part_next : (file : List ℕ) (command : Option Command) (next : ℕ) (cs : List Command) (part : LinkEditPart)
    → slice_get (parts_of_some file command) next ≡ Some part → to_come file command next cs ≡ part ∷ to_come file command (next + 1) cs
part_next file command next cs part h = rw (some_left (parts_of_some file command) next part h) refl

pub part_begins : (file : List ℕ) (command : Option Command) (next : ℕ) (cs : List Command) (c : Command) (rest : List Command)
    → slice_get (parts_of_some file command) next ≡ None → cs ≡ c ∷ rest → to_come file command next cs ≡ to_come file (Some c) 0 rest
part_begins file command next cs c rest h is = rw (none_left (parts_of_some file command) next h, is) refl

pub parts_over : (file : List ℕ) (command : Option Command) (next : ℕ) (cs : List Command)
    → slice_get (parts_of_some file command) next ≡ None → cs ≡ [] → to_come file command next cs ≡ []
parts_over file command next cs h is = rw (none_left (parts_of_some file command) next h, is) refl

data_few : (file : List ℕ) (place : ℕ) (kind : Option LinkEdit) → length (data_parts file place kind) ≤ 5
data_few file place None = omega arith
data_few file place (Some kind) = omega arith

parts_few : (file : List ℕ) (c : Command) → length (parts_of file c) ≤ 5
unfolding parts_of parts_at
parts_few file c = grind (arith, common_steps, data_few file c.place (data_kind c.kind))

some_few : (file : List ℕ) (command : Option Command) → length (parts_of_some file command) ≤ 5
some_few file None = omega arith
some_few file (Some c) = parts_few file c

-- The number of a range is small.
pub few_parts : (file : List ℕ) (command : Option Command) (next : ℕ) (part : LinkEditPart)
    → slice_get (parts_of_some file command) next ≡ Some part → next < 5
few_parts file command next part h = omega (arith, some_few file command, slice_get_within (parts_of_some file command) next part h)

-- A command has the minimum size of its kind, also if it is a segment.
least_of_segment : (c : Command) → is_segment c ≡ true → least_by_kind c.kind ≡ LOAD_COMMAND_LEN
unfolding least_by_kind data_kind
least_of_segment c is = grind (arith, common_steps)

kind_by : (file : List ℕ) (c : Command) (b : Bool) → is_segment c ≡ b → IsInside file c → c.place + least_by_kind c.kind ≤ length file
unfolding least_size
kind_by file c true is known =
    let least = least_of_segment c is in
    grind (arith, common_steps, known.least, known.within, least)
kind_by file c false is known = grind (arith, common_steps, known.least, known.within)

pub kind_within : (file : List ℕ) (c : Command) → IsInside file c → c.place + least_by_kind c.kind ≤ length file
kind_within file c known = kind_by file c (is_segment c) refl known
