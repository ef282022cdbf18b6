-- Symbol tables and their symbols (ELF gABI, Symbol Table).
use Rattle.std.specs.Prelude.{◌≡◌, ℕ, ◌+◌, ◌*◌, ◌-◌, ◌/◌, ◌%◌, ◌<◌, ◌==◌, ◌&&◌, ◌⊎◌, Bool, List, [], length, Option, Some, None, Result, Ok, nat_lt, if◌then◌else◌}
use Rattle.std.specs.Int.{w32}
use Rattle.size_core.specs.declared.fault.BadFile.{BadFile}
use Rattle.size_core.specs.declared.fault.Fault.{Fault}
use Rattle.size_core.specs.declared.fault.Fault.TheVariants.{BadIndex, NameOutside}
use Rattle.size_core.specs.Checks.{◌>>=◌, ◌>>◌, demand, bad}
use Rattle.size_core.specs.Gather.{first_from}
use Rattle.byte_cursor.specs.declared.encoding.Encoding.{Encoding}
use Rattle.byte_cursor.specs.Encoding.{byte, four, half, pick, word}
use Rattle.byte_cursor.specs.Numbers.{num, text}
use Rattle.elf_file.specs.declared.constants.TheConstants.{SHN_XINDEX}
use Rattle.elf_file.specs.Layout.{encoding_of}
use Rattle.elf_file.specs.Tables.{section_at, section_count, section_bytes}
use Rattle.elf_symbols.specs.declared.constants.TheConstants.{SHT_SYMTAB, SHT_DYNSYM, SHT_SYMTAB_SHNDX}
use Rattle.elf_symbols.specs.declared.layout.TheConstants.{SYMBOL_LEN, ST_NAME, ST_VALUE, ST_SIZE, ST_INFO, ST_SHNDX}

-- Section i is a symbol table: it is a section of the file and has the type SHT_SYMTAB or SHT_DYNSYM
-- (gABI, Sections: Section Types).
pub record IsSymbolTable (file : List ℕ) (i : ℕ) : Type 0 where
  pub above : 0 < i
  pub below : i < section_count file
  pub kind : ((section_at file i).kind ≡ SHT_SYMTAB) ⊎ ((section_at file i).kind ≡ SHT_DYNSYM)

-- A symbol table: the file, and the number of the table's section (gABI, Symbol Table).
pub record Table : Type 0 where
  pub file : List ℕ
  pub index : ℕ

-- The symbol table in section i, whose names are in section sh_link. BadIndex if there is no such
-- section (gABI, Sections: sh_link).
unfoldable pub table_at : List ℕ → ℕ → Result Table BadFile
table_at file i = do
  demand (nat_lt (section_at file i).link (section_count file)) BadIndex (section_at file i).place
  Ok (record { file = file; index = i })

-- The size of a symbol in bytes: Elf32_Sym, Elf64_Sym (gABI, Symbol Table).
abbrev pub symbol_len : Encoding → ℕ
symbol_len e = pick e SYMBOL_LEN

-- How many symbols the table in section i has (gABI, Symbol Table).
unfoldable pub symbol_count : List ℕ → ℕ → ℕ
symbol_count file i = (section_at file i).size / symbol_len (encoding_of file)

-- The file offset of symbol k of the table in section i (gABI, Symbol Table).
abbrev pub symbol_place : List ℕ → ℕ → ℕ → ℕ
symbol_place file i k = (section_at file i).offset + k * symbol_len (encoding_of file)

-- The value, or this fault if there is none.
abbrev pub present : {X : Type 0} → Option X → Fault → ℕ → Result X BadFile
present None fault place = bad fault place
present (Some x) fault place = Ok x

-- st_name of the symbol at file offset place: the offset of its name in the names of its table, or 0 if it
-- has no name (gABI, Symbol Table: st_name).
abbrev pub name_start : List ℕ → ℕ → ℕ
name_start file place = four (encoding_of file) file place ST_NAME

-- The name of the symbol at file offset place, in the names of its table. Empty if st_name is 0 (gABI,
-- Symbol Table: st_name).
unfoldable pub name_at : List ℕ → List ℕ → ℕ → Result (List ℕ) BadFile
name_at file names place =
    if name_start file place == 0 then Ok [] else present (text names (name_start file place)) NameOutside place

-- st_shndx of the symbol at file offset place (gABI, Symbol Table: st_shndx).
abbrev pub shndx_at : List ℕ → ℕ → ℕ
shndx_at file place = half (encoding_of file) file place ST_SHNDX

-- The section number of symbol k, which is at file offset place: st_shndx, or if that is SHN_XINDEX,
-- entry k of the table's extended section indexes (gABI, Symbol Table: st_shndx).
unfoldable pub section_number_at : List ℕ → List ℕ → ℕ → ℕ → Result ℕ BadFile
section_number_at file numbers place k =
    if shndx_at file place == SHN_XINDEX then present (num numbers (4 * k) w32 (encoding_of file).order) BadIndex place
    else Ok (shndx_at file place)

-- The names of the table in section i (gABI, Sections: sh_link).
abbrev pub names_of : List ℕ → ℕ → List ℕ
names_of file i = section_bytes file (section_at file i).link

-- The file offset of the bytes of section j, or 0 if it has none (gABI, Section Header: sh_offset).
unfoldable pub bytes_place : List ℕ → ℕ → ℕ
bytes_place file j = if length (section_bytes file j) == 0 then 0 else (section_at file j).offset

-- The file offset of the names of the table in section i (gABI, Sections: sh_link).
abbrev pub names_place : List ℕ → ℕ → ℕ
names_place file i = bytes_place file (section_at file i).link

-- Section j has the extended section indexes of the table in section i (gABI, Sections: SHT_SYMTAB_SHNDX).
abbrev pub has_numbers_of : List ℕ → ℕ → ℕ → Bool
has_numbers_of file i j = (section_at file j).kind == SHT_SYMTAB_SHNDX && (section_at file j).link == i

-- The first section with the extended section indexes of the table in section i (gABI, Sections:
-- SHT_SYMTAB_SHNDX).
abbrev pub numbers_index : List ℕ → ℕ → Option ℕ
numbers_index file i = first_from (has_numbers_of file i) 1 (section_count file - 1)

-- The bytes of a section, and none if there is no section (gABI, Section Header: sh_offset, sh_size).
abbrev pub bytes_of : List ℕ → Option ℕ → List ℕ
bytes_of file None = []
bytes_of file (Some j) = section_bytes file j

-- The extended section indexes of the table in section i, and none if no section has them (gABI,
-- Sections: SHT_SYMTAB_SHNDX).
abbrev pub numbers_of : List ℕ → ℕ → List ℕ
numbers_of file i = bytes_of file (numbers_index file i)

-- A symbol (gABI, Symbol Table).
pub record SymbolRecord : Type 0 where
  pub place : ℕ
  pub name : List ℕ
  pub value : ℕ
  pub size : ℕ
  pub kind : ℕ
  pub shndx : ℕ
  pub section : ℕ

-- The symbol at file offset place, with the name and the section that were found for it (gABI, Symbol
-- Table).
abbrev pub record_at : List ℕ → ℕ → List ℕ → ℕ → SymbolRecord
record_at file place name section = let e = encoding_of file in record {
  place = place;
  name = name;
  value = word e file place ST_VALUE;
  size = word e file place ST_SIZE;
  kind = byte e file place ST_INFO % 16;
  shndx = shndx_at file place;
  section = section;
}

-- Symbol k of the table in section i, or its fault (gABI, Symbol Table).
unfoldable pub symbol_at : List ℕ → ℕ → ℕ → Result SymbolRecord BadFile
symbol_at file i k = do
  name ← name_at file (names_of file i) (symbol_place file i k)
  section ← section_number_at file (numbers_of file i) (symbol_place file i k) k
  Ok (record_at file (symbol_place file i k) name section)
