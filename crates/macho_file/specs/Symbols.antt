-- The symbols of a Mach-O file (mach-o/loader.h: symtab_command; mach-o/nlist.h: nlist, nlist_64).
use Rattle.std.specs.Prelude.{ℕ, ◌==◌, List, Option, None, Some, Result, Ok}
use Rattle.std.specs.List.{find}
use Rattle.size_core.specs.declared.fault.BadFile.{BadFile}
use Rattle.size_core.specs.Checks.{◌>>=◌}
use Rattle.macho_records.specs.declared.constants.TheConstants.{LC_SYMTAB}
use Rattle.macho_symbols.specs.declared.symbol_table.SymbolTable.{SymbolTable}
use Rattle.macho_symbols.specs.Symbols.{SymbolRecord, symbol_of, table_at}
use Rattle.macho_file.specs.declared.command.Command.{Command}
use Rattle.macho_file.specs.Commands.{commands}

-- The first command that has a symbol table (mach-o/loader.h: LC_SYMTAB).
unfoldable pub symbol_table : List ℕ → Option Command
symbol_table file = find (λ c. c.kind == LC_SYMTAB) (commands file)

-- The symbol table of a command, or its fault, and an empty table if there is no command (mach-o/loader.h:
-- symtab_command).
unfoldable pub table_of : List ℕ → Option Command → Result SymbolTable BadFile
table_of file None = Ok (record { symoff = 0; nsyms = 0; stroff = 0; strsize = 0 })
table_of file (Some c) = table_at file c.place

-- The symbol table of the file, or its fault (mach-o/loader.h: symtab_command).
abbrev pub table : List ℕ → Result SymbolTable BadFile
table file = table_of file (symbol_table file)

-- The number of symbols, or the fault of the table (mach-o/loader.h: nsyms).
unfoldable pub symbol_count : List ℕ → Result ℕ BadFile
symbol_count file = do
  t ← table file
  Ok t.nsyms

-- Symbol k of the file's symbol table, or its fault (mach-o/nlist.h: nlist, nlist_64).
unfoldable pub symbol_at : List ℕ → ℕ → Result SymbolRecord BadFile
symbol_at file k = do
  t ← table file
  symbol_of file t k
