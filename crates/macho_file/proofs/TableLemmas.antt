-- Segments and sections of commands.
use Rattle.std.proofs.Common.{◌≡◌, ℕ, zero, suc, ◌+◌, ◌-◌, ◌*◌, ◌^◌, ◌<◌, ◌≤◌, ◌==◌, Bool, true, false, List, [], ◌∷◌, length, Option, Some, None, refl, sym, ap, subst, ◌∙◌, arith, length-append, add-one, add-zero, zero-add, add_comm, if◌then◌else◌}
use Rattle.std.proofs.lemmas.Grind.{common_steps}
use Rattle.std.specs.List.{flat_map, find}
use Rattle.byte_cursor.specs.declared.encoding.Encoding.{Encoding}
use Rattle.macho_records.specs.declared.constants.TheConstants.{LC_SYMTAB}
use Rattle.macho_file.specs.declared.command.Command.{Command}
use Rattle.macho_records.specs.declared.layout.TheConstants.{SYMTAB_COMMAND_LEN}
use Rattle.macho_records.specs.Layout.{encoding_of, header_len, command_count, commands_end}
use Rattle.macho_records.specs.Kinds.{least_by_kind}
use Rattle.macho_file.specs.Commands.{command_at, commands, commands_from, is_segment, form_of, least_size, section_count_of, section_len, segment_len}
use Rattle.macho_file.specs.Tables.{sections, sections_from, sections_of, segments, segments_from}
use Rattle.macho_file.specs.Symbols.{symbol_table}
use Rattle.macho_file.specs.Known.{HasCommands, IsInside, or_else}
use Rattle.macho_file.proofs.WalkLemmas.{goes_on, is_inside}

length-sections_from : (file : List ℕ) (form : Encoding) (place n : ℕ) → length (sections_from file form place n) ≡ n
unfolding sections_from
length-sections_from file form place zero = refl
length-sections_from file form place (suc n) = ap suc (length-sections_from file form (place + section_len form) n)

-- The number of sections of a segment, and of another command.
pub sections_of_segment : (file : List ℕ) (c : Command) → is_segment c ≡ true → length (sections_of file c) ≡ section_count_of file c
unfolding sections_of
sections_of_segment file c is = let form = form_of (encoding_of file) c in rw is (length-sections_from file form (c.place + segment_len form) (section_count_of file c))

pub sections_of_other : (file : List ℕ) (c : Command) → is_segment c ≡ false → sections_of file c ≡ []
unfolding sections_of
sections_of_other file c is = rw is refl

-- A segment command and the headers of its sections lie in the file.
pub segment_inside : (file : List ℕ) (e : Encoding) (c : Command) → e ≡ encoding_of file → IsInside file c → is_segment c ≡ true
    → c.place + segment_len (form_of e c) + section_count_of file c * section_len (form_of e c) ≤ length file
unfolding least_size
segment_inside file e c encoding known is = grind (arith, common_steps, known.least, known.within)

-- A command has at least eight bytes, and 68 for each of its sections.
least-by_kind : (kind : ℕ) → 8 ≤ least_by_kind kind
unfolding least_by_kind
least-by_kind kind = grind (arith, common_steps)

room_of_segment : (file : List ℕ) (c : Command) → IsInside file c → is_segment c ≡ true → 8 + 68 * length (sections_of file c) ≤ c.size
unfolding least_size
room_of_segment file c known is = grind (arith, common_steps, known.least, sections_of_segment file c is)

room_of_other : (file : List ℕ) (c : Command) → IsInside file c → is_segment c ≡ false → 8 + 68 * length (sections_of file c) ≤ c.size
unfolding least_size
room_of_other file c known is =
    let none : sections_of file c ≡ [] = sections_of_other file c is in
    grind (arith, common_steps, known.least, least-by_kind c.kind)

room_of : (file : List ℕ) (c : Command) (b : Bool) → is_segment c ≡ b → IsInside file c → 8 + 68 * length (sections_of file c) ≤ c.size
room_of file c true is known = room_of_segment file c known is
room_of file c false is known = room_of_other file c known is

ends : (file : List ℕ) (place : ℕ) → IsInside file (command_at file place) → place + (command_at file place).size ≤ commands_end file
unfolding command_at
ends file place here = here.ends

-- The commands from an offset on, with all their sections, fit before the end of the load commands.
room : (file : List ℕ) (e : Encoding) (n place : ℕ) → HasCommands file e place n → place ≤ commands_end file
    → (place + 8 * n ≤ commands_end file) × (place + 68 * length (flat_map (sections_of file) (commands_from file place n)) ≤ commands_end file)
unfolding commands_from
room file e zero place known le = (omega arith, omega arith)
room file e (suc n) place known le =
    let c = command_at file place in
    let here : IsInside file c = is_inside file e place (suc n) known (omega arith) in
    let k : suc n - 1 ≡ n = omega arith in
    let next : HasCommands file e (place + c.size) n = subst (λ (m : ℕ). HasCommands file e (place + c.size) m) k (goes_on file e place (suc n) known (omega arith)) in
    let rest = room file e n (place + c.size) next (ends file place here) in
    let some = room_of file c (is_segment c) refl here in
    (omega (arith, rest.0, some), rw length-append (omega (arith, rest.1, some)))

length_commands_from : (file : List ℕ) (place n : ℕ) → length (commands_from file place n) ≡ n
unfolding commands_from
length_commands_from file place zero = refl
length_commands_from file place (suc n) = ap suc (length_commands_from file (place + (command_at file place).size) n)

pub length_commands : (file : List ℕ) → length (commands file) ≡ command_count file
length_commands file = length_commands_from file (header_len file) (command_count file)

begins : (file : List ℕ) → header_len file ≤ commands_end file
begins file = omega arith

pub commands_small : (file : List ℕ) (e : Encoding) → HasCommands file e (header_len file) (command_count file) → length (commands file) < 2 ^ 32
commands_small file e known =
    let all = room file e (command_count file) (header_len file) known (begins file) in
    omega (arith, all.0, length_commands file, known.header.ends, known.header.small)

pub sections_small : (file : List ℕ) (e : Encoding) → HasCommands file e (header_len file) (command_count file) → length (sections file) < 2 ^ 32
unfolding sections
sections_small file e known =
    let all = room file e (command_count file) (header_len file) known (begins file) in
    omega (arith, all.1, known.header.ends, known.header.small)

pub sections_begin : (file : List ℕ) → length (sections file) ≡ length (flat_map (sections_of file) (commands file))
unfolding sections
sections_begin file = refl

pub segments_begin : (file : List ℕ) → length (segments file) ≡ length (segments_from file 0 (commands file))
unfolding segments
segments_begin file = refl

pub table_begins : (file : List ℕ) → symbol_table file ≡ find (λ c. c.kind == LC_SYMTAB) (commands file)
unfolding symbol_table
table_begins file = refl

pub segment_within : (file : List ℕ) (e : Encoding) (c : Command) → e ≡ encoding_of file → IsInside file c → is_segment c ≡ true
    → c.place + segment_len (form_of e c) ≤ length file
segment_within file e c encoding known is = omega (arith, segment_inside file e c encoding known is)

-- What one more command adds.
count_by_kind : (file : List ℕ) (first : ℕ) (c : Command) (cs : List Command) (b : Bool) → is_segment c ≡ b
    → length (segments_from file first (c ∷ cs)) ≡ (if b then 1 else 0) + length (segments_from file (first + length (sections_of file c)) cs)
count_by_kind file first c cs true is = rw (is, sections_of_segment file c is) (sym (add-one (length (segments_from file (first + section_count_of file c) cs))) ∙ add_comm (length (segments_from file (first + section_count_of file c) cs)) 1)
count_by_kind file first c cs false is =
    let same : first + length (sections_of file c) ≡ first = rw (sections_of_other file c is) (add-zero first) in
    rw (is, same) (sym (zero-add (length (segments_from file first cs))))

pub segments_more : (file : List ℕ) (first : ℕ) (c : Command) (cs : List Command)
    → length (segments_from file first (c ∷ cs)) ≡ (if is_segment c then 1 else 0) + length (segments_from file (first + length (sections_of file c)) cs)
segments_more file first c cs = count_by_kind file first c cs (is_segment c) refl

pub sections_more : (file : List ℕ) (c : Command) (cs : List Command) → length (flat_map (sections_of file) (c ∷ cs)) ≡ length (sections_of file c) + length (flat_map (sections_of file) cs)
sections_more file c cs = length-append (sections_of file c) (flat_map (sections_of file) cs)

found_by_kind : (o found : Option Command) (c : Command) (b : Bool) → or_else o (if b then Some c else found) ≡ or_else (or_else o (if b then Some c else None)) found
found_by_kind (Some x) found c b = refl
found_by_kind None found c true = refl
found_by_kind None found c false = refl

pub found_more : (o : Option Command) (c : Command) (cs : List Command)
    → or_else o (find (λ c. c.kind == LC_SYMTAB) (c ∷ cs)) ≡ or_else (or_else o (if c.kind == LC_SYMTAB then Some c else None)) (find (λ c. c.kind == LC_SYMTAB) cs)
found_more o c cs = found_by_kind o (find (λ c. c.kind == LC_SYMTAB) cs) c (c.kind == LC_SYMTAB)

-- The fields of a symtab_command lie in the file.
pub table_inside : (file : List ℕ) (c : Command) → IsInside file c → c.kind ≡ LC_SYMTAB → c.place + SYMTAB_COMMAND_LEN ≤ length file
unfolding least_size least_by_kind
table_inside file c known is = grind (arith, common_steps, known.least, known.within)
