-- The claims of symbols (ELF gABI, Symbol Table).
use Rattle.std.specs.Prelude.{◌≡◌, ◌⊎◌, ℕ, ◌-◌, ◌%◌, ◌==◌, ◌&&◌, ◌||◌, not, nat_le, nat_lt, Bool, List, [], length, Option, None, Some, Result, Ok, if◌then◌else◌}
use Rattle.size_core.specs.declared.fault.BadFile.{BadFile}
use Rattle.size_core.specs.Checks.{◌>>=◌, ◌>>◌}
use Rattle.size_model.specs.declared.view.LabelledClaim.{LabelledClaim}
use Rattle.elf_file.specs.Tables.{header_of, section_at, section_count}
use Rattle.elf_symbols.specs.Symbols.{SymbolRecord, symbol_at, symbol_count, table_at}
use Rattle.elf_file.specs.declared.constants.TheConstants.{EM_ARM, SHN_LORESERVE, SHN_XINDEX}
use Rattle.elf_symbols.specs.declared.constants.TheConstants.{SHT_SYMTAB, SHT_DYNSYM, STT_NOTYPE, STT_OBJECT, STT_FUNC, STT_GNU_IFUNC}
use Rattle.claim_sheet.specs.declared.reach.Reach.{Reach}
use Rattle.claim_sheet.specs.Reaches.{claim_on_some, in_memory, span}
use Rattle.elf_claims.specs.Loads.{has_addresses, is_relocatable}
use Rattle.claim_sheet.specs.Read.{joined, read_each}

-- The symbol's type is data, a function, or no type (gABI, Symbol Table).
abbrev pub is_data_or_code : ℕ → Bool
is_data_or_code kind = kind == STT_NOTYPE || kind == STT_OBJECT || kind == STT_FUNC || kind == STT_GNU_IFUNC

-- The symbol is defined in a section: st_shndx is not SHN_UNDEF, and no reserved number except SHN_XINDEX (gABI, Symbol
-- Table).
abbrev pub is_in_section : SymbolRecord → Bool
is_in_section s = not (s.section == 0) && not (nat_le SHN_LORESERVE s.shndx && nat_lt s.shndx SHN_XINDEX)

-- The symbol names bytes: it is data or code in a section, and has a size and a name (gABI, Symbol Table).
unfoldable pub names_bytes : SymbolRecord → Bool
names_bytes s = is_data_or_code s.kind && (nat_lt 0 s.size && (not (length s.name == 0) && is_in_section s))

-- The symbol's address. Bit 0 of an Arm function's value is the instruction set and not part of the address (gABI,
-- Symbol Table).
abbrev pub symbol_address : List ℕ → SymbolRecord → ℕ
symbol_address file s = if (header_of file).machine == EM_ARM && s.kind == STT_FUNC then s.value - s.value % 2 else s.value

-- The symbol has an address space: in a relocatable file, its section has addresses (gABI, Symbol Table).
abbrev pub has_space : List ℕ → SymbolRecord → Bool
has_space file s = not (is_relocatable file) || (nat_lt s.section (section_count file) && has_addresses file s.section)

-- The symbol's address space: that of its section in a relocatable file, and 0 in others (gABI, Symbol Table).
abbrev pub symbol_space : List ℕ → SymbolRecord → ℕ
symbol_space file s = if is_relocatable file then s.section else 0

-- What a symbol covers: its addresses, if it names bytes (gABI, Symbol Table).
unfoldable pub symbol_reach : List ℕ → SymbolRecord → Option Reach
symbol_reach file s =
    if names_bytes s && has_space file s then Some (in_memory (span (symbol_space file s) (symbol_address file s) s.size)) else None

-- The claim of a symbol under its name, if it names bytes (gABI, Symbol Table).
abbrev pub claim_of_symbol : List ℕ → SymbolRecord → List LabelledClaim
claim_of_symbol file s = claim_on_some (symbol_reach file s) s.name

-- The claim of symbol k of the table in section i, or the fault of the symbol (gABI, Symbol Table).
unfoldable pub symbol_claim : List ℕ → ℕ → ℕ → Result (List LabelledClaim) BadFile
symbol_claim file i k = do
  s ← symbol_at file i k
  Ok (claim_of_symbol file s)

-- The claims of all symbols of the table in section i, in order, or the first fault (gABI, Symbol Table).
unfoldable pub symbol_list : List ℕ → ℕ → Result (List LabelledClaim) BadFile
symbol_list file i = read_each (symbol_claim file i) 0 (symbol_count file i)

-- The claims of the table in section i, or the first fault: that of the table, then those of its symbols (gABI, Symbol
-- Table).
unfoldable pub table_claims : List ℕ → ℕ → Result (List LabelledClaim) BadFile
table_claims file i = do
  table_at file i
  symbol_list file i

-- The types of sections that are symbol tables (gABI, Symbol Table).
abbrev pub IsTableType : ℕ → Type 0
IsTableType kind = (kind ≡ SHT_SYMTAB) ⊎ (kind ≡ SHT_DYNSYM)

-- The claims of section i if it is a symbol table of this type, or the first fault (gABI, Symbol Table).
unfoldable pub claims_of_type : ℕ → List ℕ → ℕ → Result (List LabelledClaim) BadFile
claims_of_type kind file i = if (section_at file i).kind == kind then table_claims file i else Ok []

-- The claims of all symbol tables of this type, in the order of the sections, or the first fault (gABI, Symbol Table).
unfoldable pub tables_claims : ℕ → List ℕ → Result (List LabelledClaim) BadFile
tables_claims kind file = read_each (claims_of_type kind file) 1 (section_count file - 1)

-- The claims of all symbols: first the tables of type SHT_SYMTAB, then those of type SHT_DYNSYM; or the first fault
-- (gABI, Symbol Table).
unfoldable pub symbols_claims : List ℕ → Result (List LabelledClaim) BadFile
symbols_claims file = joined (tables_claims SHT_SYMTAB file) (tables_claims SHT_DYNSYM file)
