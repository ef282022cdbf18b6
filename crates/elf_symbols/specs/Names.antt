-- The names of symbols, and where they are (ELF gABI, Symbol Table: st_name).
use Rattle.std.specs.Prelude.{◌≡◌, ℕ, ◌+◌, List, Result, Ok}
use Rattle.size_core.specs.declared.fault.BadFile.{BadFile}
use Rattle.elf_file.specs.Tables.{section_at, section_bytes}
use Rattle.elf_symbols.specs.declared.symbol.NameOffset.{NameOffset}
use Rattle.elf_symbols.specs.Symbols.{name_at, name_start, names_of, names_place, symbol_place}

-- The name of symbol k of the table in section i (gABI, Symbol Table: st_name).
abbrev pub symbol_name : List ℕ → ℕ → ℕ → Result (List ℕ) BadFile
symbol_name file i k = name_at file (names_of file i) (symbol_place file i k)

-- Where this name is: the section that has the names, and st_name (gABI, Sections: sh_link; Symbol Table:
-- st_name).
abbrev pub name_offset : List ℕ → ℕ → ℕ → NameOffset
name_offset file i k = record { section = (section_at file i).link; offset = name_start file (symbol_place file i k) }

-- The file offset of this name, if it isn't empty (gABI, Sections: sh_link; Symbol Table: st_name).
abbrev pub name_place : List ℕ → ℕ → ℕ → ℕ
name_place file i k = names_place file i + name_start file (symbol_place file i k)

-- Each symbol with this st_name, in a table that has its names in this section, has this name.
abbrev pub IsNameAt : List ℕ → NameOffset → List ℕ → Type 0
IsNameAt file at name = (place : ℕ) → name_start file place ≡ at.offset → name_at file (section_bytes file at.section) place ≡ Ok name
