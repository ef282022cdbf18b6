-- Symbols and spans as contracts see them.
use Rattle.macho_symbols.specs.declared.spans.NamedSpan.{NamedSpan}
use Rattle.macho_symbols.specs.declared.symbol.PlacedSymbol.{PlacedSymbol}
use Rattle.macho_symbols.specs.Spans.{SpanRecord}
use Rattle.macho_symbols.specs.Symbols.{SymbolRecord}

-- A symbol as contracts see it, without the file offset of its name.
abbrev pub placed_shown : PlacedSymbol → SymbolRecord
placed_shown s = record { place = s.place; name = s.name.now; kind = s.kind; sect = s.sect; value = s.value }

-- A span as contracts see it, without the file offset of its name.
abbrev pub named_shown : NamedSpan → SpanRecord
named_shown s = record { name = s.name.now; start = s.start; len = s.len }
