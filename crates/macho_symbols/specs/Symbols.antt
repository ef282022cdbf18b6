-- The symbol table of a Mach-O file (mach-o/loader.h: symtab_command; mach-o/nlist.h: nlist, nlist_64).
use Rattle.std.specs.Prelude.{ℕ, ◌+◌, ◌*◌, ◌≤◌, ◌==◌, ◌&&◌, List, [], length, take, drop, Option, None, Some, Result, Ok, nat_le, if◌then◌else◌}
use Rattle.size_core.specs.declared.fault.BadFile.{BadFile}
use Rattle.size_core.specs.declared.fault.Fault.{Fault}
use Rattle.size_core.specs.declared.fault.Fault.TheVariants.{TablePastEnd, NameOutside}
use Rattle.size_core.specs.Checks.{◌>>=◌, ◌>>◌, demand, bad}
use Rattle.byte_cursor.specs.Encoding.{byte, four, word}
use Rattle.byte_cursor.specs.Numbers.{text}
use Rattle.macho_records.specs.declared.layout.TheConstants.{SYMTAB_SYMOFF, SYMTAB_NSYMS, SYMTAB_STROFF, SYMTAB_STRSIZE, NLIST_STRX, NLIST_TYPE, NLIST_SECT, NLIST_VALUE}
use Rattle.macho_records.specs.Layout.{encoding_of, symbol_len}
use Rattle.macho_symbols.specs.declared.symbol_table.SymbolTable.{SymbolTable}

-- The fields of the symtab_command at file offset place (mach-o/loader.h: symtab_command).
unfoldable pub table_fields : List ℕ → ℕ → SymbolTable
table_fields file place = let e = encoding_of file in record {
  symoff = four e file place SYMTAB_SYMOFF;
  nsyms = four e file place SYMTAB_NSYMS;
  stroff = four e file place SYMTAB_STROFF;
  strsize = four e file place SYMTAB_STRSIZE;
}

-- The symbol table of the symtab_command at file offset place. TablePastEnd if the symbols or the string table
-- end after the file (mach-o/loader.h: symtab_command).
unfoldable pub table_at : List ℕ → ℕ → Result SymbolTable BadFile
table_at file place = let t = table_fields file place in do
  demand (nat_le (t.symoff + t.nsyms * symbol_len file) (length file) && nat_le (t.stroff + t.strsize) (length file)) TablePastEnd place
  Ok t

-- The symbols and the string table of a symbol table lie in the file.
pub record HasTable (file : List ℕ) (t : SymbolTable) : Type 0 where
  pub symbols : t.symoff + t.nsyms * symbol_len file ≤ length file
  pub names : t.stroff + t.strsize ≤ length file

-- A symbol (mach-o/nlist.h: nlist, nlist_64).
pub record SymbolRecord : Type 0 where
  pub place : ℕ
  pub name : List ℕ
  pub kind : ℕ
  pub sect : ℕ
  pub value : ℕ

-- The string table of a symbol table (mach-o/loader.h: stroff, strsize).
abbrev pub strings : List ℕ → SymbolTable → List ℕ
strings file t = take t.strsize (drop t.stroff file)

-- The value, or this fault if there is none.
abbrev pub present : {X : Type 0} → Option X → Fault → ℕ → Result X BadFile
present None fault place = bad fault place
present (Some x) fault place = Ok x

-- The name of the symbol at file offset place, or NameOutside. Empty if n_strx is 0 (mach-o/nlist.h:
-- n_strx).
unfoldable pub symbol_name : List ℕ → SymbolTable → ℕ → Result (List ℕ) BadFile
symbol_name file t place = let strx = four (encoding_of file) file place NLIST_STRX in
    if strx == 0 then Ok [] else present (text (strings file t) strx) NameOutside place

-- The file offset of the name of the symbol at file offset place, if the name isn't empty (mach-o/loader.h: stroff;
-- mach-o/nlist.h: n_strx).
abbrev pub place_of_name : List ℕ → SymbolTable → ℕ → ℕ
place_of_name file t place = t.stroff + four (encoding_of file) file place NLIST_STRX

-- The symbol at file offset place, with this name (mach-o/nlist.h: nlist, nlist_64).
abbrev pub symbol_named : List ℕ → List ℕ → ℕ → SymbolRecord
symbol_named file name place = let e = encoding_of file in record {
  place = place;
  name = name;
  kind = byte e file place NLIST_TYPE;
  sect = byte e file place NLIST_SECT;
  value = word e file place NLIST_VALUE;
}

-- Symbol k of a table, or its fault (mach-o/nlist.h: nlist, nlist_64).
unfoldable pub symbol_of : List ℕ → SymbolTable → ℕ → Result SymbolRecord BadFile
symbol_of file t k = let place = t.symoff + k * symbol_len file in do
  name ← symbol_name file t place
  Ok (symbol_named file name place)
