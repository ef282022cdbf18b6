-- The records of a little-endian ELF file of 64 bits (ELF gABI, chapter 4: Data Representation). The fields
-- of a record are in the standard's order.
use Rattle.std.specs.Prelude.{ℕ, ◌+◌, ◌*◌, List, [], ◌∷◌, ◌++◌, replicate, codes}
use Rattle.std.specs.Int.{w16, w32, w64, to_le_bytes}
use Rattle.elf_synth.specs.declared.records.Symbol.{Symbol}
use Rattle.elf_synth.specs.declared.records.SectionHeader.{SectionHeader}

-- A number of two bytes: Elf64_Half (gABI, Data Representation).
unfoldable pub half : ℕ → List ℕ
half n = to_le_bytes w16 n

-- A number of four bytes: Elf64_Word (gABI, Data Representation).
unfoldable pub word : ℕ → List ℕ
word n = to_le_bytes w32 n

-- A number of eight bytes: Elf64_Addr, Elf64_Off, Elf64_Xword (gABI, Data Representation).
unfoldable pub xword : ℕ → List ℕ
xword n = to_le_bytes w64 n

-- This many zero bytes.
unfoldable pub zeros : ℕ → List ℕ
zeros count = replicate count 0

-- The bytes of e_ident: class ELFCLASS64, byte order ELFDATA2LSB, and the version of the format (gABI, ELF
-- Identification).
unfoldable pub identification : List ℕ
identification = 0x7f ∷ codes "ELF" ++ (2 ∷ 1 ∷ 1 ∷ []) ++ zeros 9

-- The file header, Elf64_Ehdr, of an x86-64 program with this entry point. It has one program header at
-- offset 64, and five section headers at an offset. The last one is that of the section names (gABI, ELF
-- Header).
unfoldable pub file_header : ℕ → ℕ → List ℕ
file_header entry section_headers =
    identification
    ++ half 2  -- e_type: ET_EXEC
    ++ half 62  -- e_machine: EM_X86_64
    ++ word 1  -- e_version: EV_CURRENT
    ++ xword entry  -- e_entry
    ++ xword 64  -- e_phoff
    ++ xword section_headers  -- e_shoff
    ++ word 0  -- e_flags
    ++ half 64  -- e_ehsize
    ++ half 56  -- e_phentsize
    ++ half 1  -- e_phnum
    ++ half 64  -- e_shentsize
    ++ half 5  -- e_shnum
    ++ half 4  -- e_shstrndx

-- The program header, Elf64_Phdr, of a load that can be read and executed: the first `size` bytes of the
-- file, at a virtual address (gABI, Program Header).
unfoldable pub program_header : ℕ → ℕ → List ℕ
program_header address size =
    word 1  -- p_type: PT_LOAD
    ++ word 5  -- p_flags: PF_R and PF_X
    ++ xword 0  -- p_offset
    ++ xword address  -- p_vaddr
    ++ xword address  -- p_paddr
    ++ xword size  -- p_filesz
    ++ xword size  -- p_memsz
    ++ xword 0x1000  -- p_align

-- The symbol of a global function, Elf64_Sym: STB_GLOBAL is 1, and STT_FUNC is 2 (gABI, Symbol Table).
unfoldable pub symbol_bytes : Symbol → List ℕ
symbol_bytes s =
    word s.name  -- st_name
    ++ ((16 * 1 + 2) ∷ [])  -- st_info
    ++ (0 ∷ [])  -- st_other
    ++ half s.section  -- st_shndx
    ++ xword s.value  -- st_value
    ++ xword s.size  -- st_size

-- A section header, Elf64_Shdr, with an alignment of 1 (gABI, Section Header).
unfoldable pub section_header : SectionHeader → List ℕ
section_header s =
    word s.name  -- sh_name
    ++ word s.kind  -- sh_type
    ++ xword s.flags  -- sh_flags
    ++ xword s.addr  -- sh_addr
    ++ xword s.offset  -- sh_offset
    ++ xword s.size  -- sh_size
    ++ word s.link  -- sh_link
    ++ word s.info  -- sh_info
    ++ xword 1  -- sh_addralign
    ++ xword s.entry_size  -- sh_entsize
