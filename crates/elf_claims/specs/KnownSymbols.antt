-- What is known of the symbols of a file while they are read (ELF gABI, Symbol Table).
use Rattle.std.specs.Prelude.{◌≡◌, ◌<◌, List, ℕ, Option, None, Some, length}
use Rattle.size_model.specs.declared.view.LabelledClaim.{LabelledClaim}
use Rattle.byte_cursor.specs.Numbers.{text}
use Rattle.claim_sheet.specs.declared.known.KnownLabel.{KnownLabel}
use Rattle.claim_sheet.specs.Known.{IsKnown}
use Rattle.elf_symbols.specs.declared.symbol.NameOffset.{NameOffset}
use Rattle.elf_symbols.specs.Names.{IsNameAt, name_offset, name_place}
use Rattle.claim_sheet.specs.LongNames.{AreKnownNames, AreNames}
use Rattle.elf_claims.specs.declared.known_symbols.KnownSymbols.{KnownSymbols}
use Rattle.elf_claims.specs.declared.symbol_names.SymbolNames.{SymbolNames}

-- A label, if it isn't empty, is the text at a file offset.
abbrev pub IsTextAt : List ℕ → ℕ → List ℕ → Type 0
IsTextAt file place label = 0 < length label → text file place ≡ Some label

-- The label is what reading the name of symbol k of the table in section i would return (gABI, Symbol Table: st_name).
pub record IsLabelOf (file : List ℕ) (i k : ℕ) (label : KnownLabel) : Type 0 where
  pub name : IsNameAt file (name_offset file i k) label.text.now
  pub place : IsTextAt file (name_place file i k) label.text.now

-- A label, if it has the offset of a name, is the name of each symbol whose name is there (gABI, Symbol Table: st_name).
abbrev pub IsLabelBy : List ℕ → Option NameOffset → List ℕ → Type 0
IsLabelBy file None label = Unit {0}
IsLabelBy file (Some name) label = IsNameAt file name label

-- The last label is the name at its offset, and the long names are those of the file.
pub record AreNamesOf (file : List ℕ) (names : SymbolNames) : Type 0 where
  pub last : IsLabelBy file names.name names.label.text.now
  pub place : IsTextAt file names.place names.label.text.now
  pub long : AreNames names.long
  pub of_file : names.long.file.now ≡ file

-- The labels are known on the sheet.
pub record AreLabelsOn (made : List LabelledClaim) (names : SymbolNames) : Type 0 where
  pub last : IsKnown made names.label
  pub long : AreKnownNames made names.long

-- The labels are what reading the names again would return, and they are known on the sheet.
pub record AreNamed (file : List ℕ) (made : List LabelledClaim) (names : SymbolNames) : Type 0 where
  pub are : AreNamesOf file names
  pub known : AreLabelsOn made names

-- The index of the extended section indexes is that of the file, and the labels are kept.
pub record AreKnown (file : List ℕ) (made : List LabelledClaim) (k : KnownSymbols) : Type 0 where
  pub numbers : k.numbers ≡ file
  pub names : AreNamed file made k.names
