-- What is known of a file whose checks hold.
use Rattle.std.proofs.Common.{◌≡◌, ℕ, zero, suc, ◌+◌, ◌-◌, ◌^◌, ◌≤◌, Bool, true, false, List, [], ◌∷◌, map, Ok, Some, slice_get, refl, subst, arith}
use Rattle.std.specs.Prelude.{All}
use Rattle.std.specs.List.{flat_map}
use Rattle.std.proofs.lemmas.Grind.{common_steps}
use Rattle.std.proofs.lemmas.List.Elements.{All-cons, All-nil, All-head, All-tail, All-append, All-get_or, All-weaker}
use Rattle.std.proofs.lemmas.Option.{get_or_from_slice_get, slice_get_within}
use Rattle.size_core.specs.Checks.{first_of}
use Rattle.byte_cursor.specs.declared.encoding.Encoding.{Encoding}
use Rattle.macho_file.specs.declared.command.Command.{Command}
use Rattle.macho_records.specs.Layout.{header_len, command_count}
use Rattle.macho_file.specs.Commands.{command_at, commands_from, is_segment, section_count_of}
use Rattle.macho_file.specs.Tables.{SectionRecord, SegmentRecord, segment_at, segments, segments_from, sections, sections_of}
use Rattle.macho_file.specs.Checks.{command_checks, segment_checks, section_fits}
use Rattle.macho_file.specs.Known.{HasCommands}
use Rattle.macho_file.specs.WellFormed.{IsWellFormed, IsAmongCommands, HasAddresses, Fits}
use Rattle.macho_file.proofs.WalkLemmas.{both, fits_here, goes_on, inside}
use Rattle.macho_file.proofs.TableLemmas.{sections_of_other}
use Rattle.macho_file.proofs.LookupLemmas.{sections_checked}

abbrev Holds : List ℕ → Command → Type 0
Holds file c = first_of (command_checks file c) ≡ Ok tt

-- The checks of each command hold.
each_holds : (file : List ℕ) (e : Encoding) (n place : ℕ) → HasCommands file e place n → All (Holds file) (commands_from file place n)
unfolding commands_from
each_holds file e zero place known = All-nil (Holds file)
each_holds file e (suc n) place known =
    let c = command_at file place in
    let k : suc n - 1 ≡ n = omega arith in
    let next : HasCommands file e (place + c.size) n = subst (λ (m : ℕ). HasCommands file e (place + c.size) m) k (goes_on file e place (suc n) known (omega arith)) in
    All-cons (Holds file) c (commands_from file (place + c.size) n) (fits_here file e place (suc n) known (omega arith)) (each_holds file e n (place + c.size) next)

addresses : (file : List ℕ) (c : Command) (first : ℕ) → Holds file c → is_segment c ≡ true → HasAddresses (segment_at file c first)
unfolding command_checks segment_checks segment_at
addresses file c first hold is = grind (arith, common_steps)

segments_step : (file : List ℕ) (first : ℕ) (c : Command) (cs : List Command) (b : Bool) → is_segment c ≡ b → Holds file c
    → ((first : ℕ) → All HasAddresses (segments_from file first cs)) → All HasAddresses (segments_from file first (c ∷ cs))
segments_step file first c cs true is hold rest = rw is (All-cons HasAddresses (segment_at file c first) (segments_from file (first + section_count_of file c) cs) (addresses file c first hold is) (rest (first + section_count_of file c)))
segments_step file first c cs false is hold rest = rw is (rest first)

segments_all : (file : List ℕ) (cs : List Command) → All (Holds file) cs → (first : ℕ) → All HasAddresses (segments_from file first cs)
segments_all file [] all first = All-nil HasAddresses
segments_all file (c ∷ cs) all first = segments_step file first c cs (is_segment c) refl (All-head (Holds file) c cs all) (segments_all file cs (All-tail (Holds file) c cs all))

fits : (file : List ℕ) (s : SectionRecord) → section_fits file s ≡ Ok tt → Fits file s
unfolding section_fits
fits file s hold = record { addresses = grind (arith, common_steps); contents = λ there some. grind (arith, common_steps) }

all_fit : (file : List ℕ) (xs : List SectionRecord) → first_of (map (section_fits file) xs) ≡ Ok tt → All (Fits file) xs
all_fit file [] hold = All-nil (Fits file)
all_fit file (x ∷ xs) hold =
    let parts = both (section_fits file x) (first_of (map (section_fits file) xs)) hold in
    All-cons (Fits file) x xs (fits file x parts.0) (all_fit file xs parts.1)

sections_step : (file : List ℕ) (c : Command) (b : Bool) → is_segment c ≡ b → Holds file c → All (Fits file) (sections_of file c)
sections_step file c true is hold = all_fit file (sections_of file c) (sections_checked file c hold is)
sections_step file c false is hold = rw (sections_of_other file c is) (All-nil (Fits file))

sections_all : (file : List ℕ) (cs : List Command) → All (Holds file) cs → All (Fits file) (flat_map (sections_of file) cs)
sections_all file [] all = All-nil (Fits file)
sections_all file (c ∷ cs) all =
    All-append (Fits file) (sections_of file c) (flat_map (sections_of file) cs) (sections_step file c (is_segment c) refl (All-head (Holds file) c cs all)) (sections_all file cs (All-tail (Holds file) c cs all))

-- An opened file is well formed.
pub is_well_formed : (file : List ℕ) (e : Encoding) → HasCommands file e (header_len file) (command_count file) → IsWellFormed file
unfolding segments sections
is_well_formed file e known =
    let all = each_holds file e (command_count file) (header_len file) known in
    let cs = commands_from file (header_len file) (command_count file) in
    record {
      header = known.header.whole;
      commands_within = known.header.ends;
      each_command = All-weaker (Holds file) (IsAmongCommands file) (λ c hold. (inside file e c known.header hold).ends) cs all;
      each_segment = segments_all file cs all 0;
      each_section = sections_all file cs all;
    }

-- The addresses of a segment by its number.
pub addresses_at : (ss : List SegmentRecord) (k : ℕ) (s : SegmentRecord) → slice_get ss k ≡ Some s → All HasAddresses ss → s.vaddr + s.memsz ≤ 2 ^ 64
addresses_at ss k s at all =
    subst HasAddresses (get_or_from_slice_get ss k s s at) (All-get_or HasAddresses ss k s (slice_get_within ss k s at) all)
