-- The spans of symbols. A span is the address range of a symbol, which starts at its value.
use Rattle.std.specs.Prelude.{ℕ, zero, suc, ◌+◌, ◌-◌, ◌==◌, ◌&&◌, not, bit_and, Bool, false, List, [], ◌∷◌, ◌++◌, length, min, Option, None, Some, Result, Ok, nat_le, nat_lt, slice_get, if◌then◌else◌}
use Rattle.std.specs.List.{filter, list_any}
use Rattle.size_core.specs.declared.fault.BadFile.{BadFile}
use Rattle.size_core.specs.Checks.{◌>>=◌}
use Rattle.macho_symbols.specs.declared.extent.Extent.{Extent}
use Rattle.macho_symbols.specs.declared.symbol_table.SymbolTable.{SymbolTable}
use Rattle.macho_records.specs.declared.constants.TheConstants.{N_STAB, N_TYPE, N_SECT}
use Rattle.macho_symbols.specs.Symbols.{SymbolRecord, symbol_of}

-- The address range of the section with this number. n_sect numbers sections from 1 on (mach-o/nlist.h:
-- n_sect).
abbrev pub extent_numbered : List Extent → ℕ → Option Extent
extent_numbered all sect = if sect == 0 then None else slice_get all (sect - 1)

-- An address lies in the address range of a section, if there is one.
abbrev pub lies_in : ℕ → Option Extent → Bool
lies_in x None = false
lies_in x (Some e) = nat_le e.addr x && nat_lt x (e.addr + e.size)

-- A symbol takes part: it isn't for a debugger, it is defined in a section, it has a name, and its value
-- lies in its section (mach-o/nlist.h: n_type, n_sect, n_value).
unfoldable pub takes_part : List Extent → SymbolRecord → Bool
takes_part all s =
    bit_and s.kind N_STAB == 0 && bit_and s.kind N_TYPE == N_SECT && not (length s.name == 0) && lies_in s.value (extent_numbered all s.sect)

-- Symbol t has the same section and value as symbol s.
abbrev pub is_at : SymbolRecord → SymbolRecord → Bool
is_at s t = t.sect == s.sect && t.value == s.value

-- Symbol t has the same section as symbol s, and a greater value.
abbrev pub is_above : SymbolRecord → SymbolRecord → Bool
is_above s t = t.sect == s.sect && nat_lt s.value t.value

-- The smaller of a number and another one, if there is another one.
abbrev pub lesser : ℕ → Option ℕ → ℕ
lesser x None = x
lesser x (Some y) = min x y

-- The smallest of the greater values of these symbols in the section of s, if there is one.
unfoldable pub least_above : SymbolRecord → List SymbolRecord → Option ℕ
least_above s [] = None
least_above s (t ∷ ts) = if is_above s t then Some (lesser t.value (least_above s ts)) else least_above s ts

-- The address where a section ends.
abbrev pub extent_end : Option Extent → ℕ
extent_end None = 0
extent_end (Some e) = e.addr + e.size

-- The next greater value, or else the end of the section.
abbrev pub or_end : Option ℕ → ℕ → ℕ
or_end None end = end
or_end (Some x) end = x

-- The span of a symbol: its name, its start address and its size in bytes.
pub record SpanRecord : Type 0 where
  pub name : List ℕ
  pub start : ℕ
  pub len : ℕ

-- The span of a symbol among the symbols that take part.
unfoldable pub span_of : List Extent → List SymbolRecord → SymbolRecord → SpanRecord
span_of all taking s = record {
  name = s.name;
  start = s.value;
  len = or_end (least_above s taking) (extent_end (extent_numbered all s.sect)) - s.value;
}

-- The spans of these symbols. Only the first symbol with a section and value has one. earlier are the
-- symbols before them.
abbrev pub spans_from : List Extent → List SymbolRecord → List SymbolRecord → List SymbolRecord → List SpanRecord
spans_from all taking earlier [] = []
spans_from all taking earlier (s ∷ rest) =
    (if list_any (is_at s) earlier then [] else span_of all taking s ∷ []) ++ spans_from all taking (earlier ++ s ∷ []) rest

-- The spans of the symbols that take part, in symbol order.
unfoldable pub spans_of_taking : List Extent → List SymbolRecord → List SpanRecord
spans_of_taking all taking = spans_from all taking [] taking

-- This many symbols of a table from number k on, or the first fault.
unfoldable pub symbols_from : List ℕ → SymbolTable → ℕ → ℕ → Result (List SymbolRecord) BadFile
symbols_from file t k zero = Ok []
symbols_from file t k (suc count) = do
  s ← symbol_of file t k
  rest ← symbols_from file t (k + 1) count
  Ok (s ∷ rest)

-- The spans of the symbols of a table, or the fault of the first symbol that has one. all has the address range of each
-- section.
unfoldable pub table_spans : List ℕ → SymbolTable → List Extent → Result (List SpanRecord) BadFile
table_spans file t all = do
  read ← symbols_from file t 0 t.nsyms
  Ok (spans_of_taking all (filter (takes_part all) read))
