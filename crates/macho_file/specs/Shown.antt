-- Segments, sections, symbols and spans as contracts see them.
use Rattle.macho_symbols.specs.Spans.{SpanRecord}
use Rattle.macho_symbols.specs.Symbols.{SymbolRecord}
use Rattle.macho_file.specs.declared.segment.MachoSegment.{MachoSegment}
use Rattle.macho_file.specs.declared.section.MachoSection.{MachoSection}
use Rattle.macho_file.specs.declared.symbol.MachoSymbol.{MachoSymbol}
use Rattle.macho_file.specs.declared.spans.SymbolSpan.{SymbolSpan}
use Rattle.macho_file.specs.Tables.{SegmentRecord, SectionRecord}

-- A segment as contracts see it.
abbrev pub segment_shown : MachoSegment → SegmentRecord
segment_shown s = record { place = s.place; name = s.name.now; vaddr = s.vaddr; memsz = s.memsz; offset = s.offset; filesz = s.filesz; maxprot = s.maxprot; first = s.first; count = s.count }

-- A section as contracts see it.
abbrev pub section_shown : MachoSection → SectionRecord
section_shown s = record { place = s.place; segment = s.segment.now; name = s.name.now; addr = s.addr; size = s.size; offset = s.offset; flags = s.flags; in_file = s.in_file }

-- A symbol as contracts see it.
abbrev pub symbol_shown : MachoSymbol → SymbolRecord
symbol_shown s = record { place = s.place; name = s.name.now; kind = s.kind; sect = s.sect; value = s.value }

-- The span of a symbol as contracts see it.
abbrev pub span_shown : SymbolSpan → SpanRecord
span_shown s = record { name = s.name.now; start = s.start; len = s.len }
