-- The loads of an ELF file: the parts that are mapped at virtual addresses.
use Rattle.std.specs.Prelude.{ℕ, ◌==◌, ◌&&◌, not, bit_and, Bool, List, Option, None, Some, if◌then◌else◌}
use Rattle.std.specs.Option.{option_to_list}
use Rattle.size_core.specs.declared.claim.Load.{Load}
use Rattle.size_core.specs.Gather.{gather}
use Rattle.elf_file.specs.declared.constants.TheConstants.{ET_REL, PT_LOAD, SHF_ALLOC, SHF_TLS, SHT_NOBITS}
use Rattle.elf_file.specs.Tables.{header_of, section_at, section_count, segment_at, segment_count, is_null}

-- A flag is set.
abbrev pub has_flag : ℕ → ℕ → Bool
has_flag flags flag = not (bit_and flags flag == 0)

-- The file is an object file: e_type is ET_REL (gABI, ELF Header).
abbrev pub is_relocatable : List ℕ → Bool
is_relocatable file = (header_of file).kind == ET_REL

-- Section i has virtual addresses: it has SHF_ALLOC, and isn't `.tbss` (SHT_NOBITS and SHF_TLS), which takes no memory
-- in the image of the process (gABI, Sections).
unfoldable pub has_addresses : List ℕ → ℕ → Bool
has_addresses file i = let s = section_at file i in
    not (is_null file i) && (has_flag s.flags SHF_ALLOC && not (s.kind == SHT_NOBITS && has_flag s.flags SHF_TLS))

-- Section i of a relocatable file as a load: if it has addresses, they begin at 0 in the section's own address space
-- (gABI, Sections).
unfoldable pub section_load : List ℕ → ℕ → Option Load
section_load file i = let s = section_at file i in
    if has_addresses file i
    then Some (record { space = i; vaddr = 0; memsz = s.size; offset = s.offset; filesz = if s.kind == SHT_NOBITS then 0 else s.size })
    else None

-- Program header i as a load, if its type is PT_LOAD. All these share one address space (gABI, Program Header).
unfoldable pub segment_load : List ℕ → ℕ → Option Load
segment_load file i = let s = segment_at file i in
    if s.kind == PT_LOAD then Some (record { space = 0; vaddr = s.vaddr; memsz = s.memsz; offset = s.offset; filesz = s.filesz }) else None

-- The number of slots: the sections of a relocatable file, the program headers of others.
unfoldable pub slot_count : List ℕ → ℕ
slot_count file = if is_relocatable file then section_count file else segment_count file

-- Slot i as a load, if it is one: section i of a relocatable file, program header i of others.
unfoldable pub slot_load : List ℕ → ℕ → Option Load
slot_load file i = if is_relocatable file then section_load file i else segment_load file i

-- All loads, in the order of the slots.
unfoldable pub loads_of : List ℕ → List Load
loads_of file = gather (λ i. option_to_list (slot_load file i)) 0 (slot_count file)
