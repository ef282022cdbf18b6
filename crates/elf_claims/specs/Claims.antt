-- The claims of the sections, the headers and the loads of an ELF file.
use Rattle.std.specs.Prelude.{ℕ, ◌*◌, ◌-◌, ◌==◌, Bool, List, [], ◌++◌, length, codes, decimal, Option, None, Some, if◌then◌else◌}
use Rattle.std.specs.Option.{option_map}
use Rattle.size_core.specs.declared.claim.Span.{Span}
use Rattle.size_core.specs.Gather.{gather}
use Rattle.size_model.specs.declared.view.LabelledClaim.{LabelledClaim}
use Rattle.elf_file.specs.declared.constants.TheConstants.{PF_R, PF_W, PF_X, SHF_ALLOC, SHF_EXECINSTR, SHF_WRITE, SHT_NOBITS}
use Rattle.elf_file.specs.Layout.{encoding_of, header_len, section_len, segment_len, phoff, shoff}
use Rattle.elf_file.specs.Tables.{section_at, section_count, segment_at, segment_count, is_null}
use Rattle.elf_file.specs.Names.{name_of}
use Rattle.claim_sheet.specs.declared.reach.Reach.{Reach}
use Rattle.claim_sheet.specs.declared.labels.Wrap.{Wrap}
use Rattle.claim_sheet.specs.Reaches.{claim_on, claim_on_some, in_both, in_file, in_memory, of_load, or_if_empty, span, wrapped}
use Rattle.elf_claims.specs.Loads.{has_flag, is_relocatable, has_addresses, slot_count, slot_load}

-- Sections.

-- The addresses of section i: they begin at sh_addr, or at 0 in the section's own address space if the file is
-- relocatable (gABI, Sections).
abbrev pub section_addresses : List ℕ → ℕ → Span
section_addresses file i = if is_relocatable file then span i 0 (section_at file i).size else span 0 (section_at file i).addr (section_at file i).size

-- The label of section i: its name, or `[Unnamed section]` if that is empty (gABI, String Table).
abbrev pub section_label : List ℕ → ℕ → List ℕ
section_label file i = or_if_empty (name_of file i) (codes "[Unnamed section]")

-- What section i covers. SHT_NOBITS sections have no bytes in the file, and sections without SHF_ALLOC have no
-- addresses; all others cover both. An empty or SHT_NULL section covers nothing (gABI, Sections).
unfoldable pub section_reach : List ℕ → ℕ → Option Reach
section_reach file i = let s = section_at file i in
    if is_null file i then None
    else if s.kind == SHT_NOBITS then (if has_addresses file i then Some (in_memory (section_addresses file i)) else None)
    else if has_flag s.flags SHF_ALLOC then Some (in_both (section_addresses file i) (span 0 s.offset s.size))
    else Some (in_file (span 0 s.offset s.size))

-- The claim of section i. `wrap` is how its label is written (gABI, Sections).
unfoldable pub section_claim : Wrap → List ℕ → ℕ → List LabelledClaim
section_claim wrap file i = claim_on_some (section_reach file i) (wrapped wrap (section_label file i))

-- The claims of all sections, in the order of the section header table (gABI, Sections).
unfoldable pub section_claims : Wrap → List ℕ → List LabelledClaim
section_claims wrap file = gather (section_claim wrap file) 1 (section_count file - 1)

-- The ELF header and the two tables that it points to.

-- The ELF header: the first 52 or 64 bytes of the file, by its class (gABI, ELF Header).
abbrev pub header_reach : List ℕ → Reach
header_reach file = in_file (span 0 0 (header_len (encoding_of file)))

-- The program header table: an entry for each segment, from e_phoff on (gABI, ELF Header).
abbrev pub segment_table_reach : List ℕ → Reach
segment_table_reach file = in_file (span 0 (phoff file) (segment_count file * segment_len (encoding_of file)))

-- The section header table: an entry for each section, from e_shoff on (gABI, ELF Header).
abbrev pub section_table_reach : List ℕ → Reach
section_table_reach file = in_file (span 0 (shoff file) (section_count file * section_len (encoding_of file)))

-- The claims of the ELF header and of both tables (gABI, ELF Header).
unfoldable pub header_claims : List ℕ → List LabelledClaim
header_claims file =
    claim_on (header_reach file) (codes "[ELF Header]")
    ++ claim_on (segment_table_reach file) (codes "[ELF Program Headers]")
    ++ claim_on (section_table_reach file) (codes "[ELF Section Headers]")

-- Loads.

-- The letter of a flag, if it is set.
abbrev pub flag_text : Bool → List ℕ → List ℕ
flag_text flag letter = if flag then letter else []

-- The letters R, W and X of the flags of a program header (gABI, Program Header).
abbrev pub segment_flags : ℕ → List ℕ
segment_flags flags = flag_text (has_flag flags PF_R) (codes "R") ++ flag_text (has_flag flags PF_W) (codes "W") ++ flag_text (has_flag flags PF_X) (codes "X")

-- The letters R, W and X of the flags of a section of a relocatable file. All sections can be read (gABI, Sections).
abbrev pub section_flags : ℕ → List ℕ
section_flags flags = codes "R" ++ flag_text (has_flag flags SHF_WRITE) (codes "W") ++ flag_text (has_flag flags SHF_EXECINSTR) (codes "X")

-- The label of load i: `LOAD #i [flags]`, or `SECTION [flags]` in a relocatable file.
unfoldable pub load_label : List ℕ → ℕ → List ℕ
load_label file i =
    if is_relocatable file then codes "SECTION [" ++ section_flags (section_at file i).flags ++ codes "]"
    else codes "LOAD #" ++ decimal i ++ codes " [" ++ segment_flags (segment_at file i).flags ++ codes "]"

-- The claim of slot i, if it is a load: its addresses, and the bytes of the file that it maps.
unfoldable pub load_claim : Wrap → List ℕ → ℕ → List LabelledClaim
load_claim wrap file i = claim_on_some (option_map (of_load (length file)) (slot_load file i)) (wrapped wrap (load_label file i))

-- The claims of all loads, in order.
unfoldable pub load_claims : Wrap → List ℕ → List LabelledClaim
load_claims wrap file = gather (load_claim wrap file) 0 (slot_count file)
