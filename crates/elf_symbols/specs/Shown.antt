-- A symbol as contracts see it.
use Rattle.elf_symbols.specs.declared.symbol.Symbol.{Symbol}
use Rattle.elf_symbols.specs.Symbols.{SymbolRecord}

-- A symbol as contracts see it.
abbrev pub shown : Symbol → SymbolRecord
shown s = record { place = s.place; name = s.name.now; value = s.value; size = s.size; kind = s.kind; shndx = s.shndx; section = s.section }
