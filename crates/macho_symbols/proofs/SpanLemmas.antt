-- The spans that a loop makes of symbols, one by one.
use Rattle.std.proofs.Common.{◌≡◌, ℕ, ◌+◌, ◌<◌, ◌≤◌, true, List, [], ◌∷◌, ◌++◌, length, map, get_or, take, drop, Result, Ok, Err, refl, subst, arith, append_assoc, if◌then◌else◌}
use Rattle.std.specs.Prelude.{All}
use Rattle.std.specs.List.{filter, list_any}
use Rattle.std.proofs.lemmas.List.{append-nil, drop_all, drop_more, take_more, get_or-map, length-map}
use Rattle.std.proofs.lemmas.List.Elements.{filter_passes}
use Rattle.size_core.specs.declared.fault.BadFile.{BadFile}
use Rattle.size_core.specs.Checks.{◌>>=◌}
use Rattle.macho_symbols.specs.declared.extent.Extent.{Extent}
use Rattle.macho_symbols.specs.declared.symbol.PlacedSymbol.{PlacedSymbol}
use Rattle.macho_symbols.specs.declared.symbol_table.SymbolTable.{SymbolTable}
use Rattle.macho_symbols.specs.Symbols.{SymbolRecord}
use Rattle.macho_symbols.specs.Spans.{SpanRecord, is_at, span_of, spans_from, spans_of_taking, symbols_from, table_spans, takes_part}
use Rattle.macho_symbols.specs.Taken.{TakePart, taken_from}
use Rattle.macho_symbols.specs.Shown.{placed_shown}

-- The span of the next symbol, and those after it.
span_one : (ext : List Extent) (front : List SpanRecord) (all : List SymbolRecord) (i : ℕ) (s : SymbolRecord) → i < length all → get_or all i s ≡ s
    → front ++ spans_from ext all (take i all) (drop i all)
    ≡ (front ++ (if list_any (is_at s) (take i all) then [] else span_of ext all s ∷ [])) ++ spans_from ext all (take (i + 1) all) (drop (i + 1) all)
span_one ext front all i s lt is = rw (drop_more all i s lt, take_more all i s lt, is, append_assoc) refl

pub span_next : (ext : List Extent) (front : List SpanRecord) (xs : List PlacedSymbol) (i : ℕ) (d : PlacedSymbol) → i < length xs
    → front ++ spans_from ext (map placed_shown xs) (take i (map placed_shown xs)) (drop i (map placed_shown xs))
    ≡ (front ++ (if list_any (is_at (placed_shown (get_or xs i d))) (take i (map placed_shown xs)) then [] else span_of ext (map placed_shown xs) (placed_shown (get_or xs i d)) ∷ []))
    ++ spans_from ext (map placed_shown xs) (take (i + 1) (map placed_shown xs)) (drop (i + 1) (map placed_shown xs))
span_next ext front xs i d lt =
    let within : i < length (map placed_shown xs) = omega (arith, length-map xs placed_shown) in
    span_one ext front (map placed_shown xs) i (placed_shown (get_or xs i d)) within (get_or-map placed_shown xs i d (placed_shown (get_or xs i d)) lt)

pub spans_end : (ext : List Extent) (front : List SpanRecord) (xs : List PlacedSymbol) (i : ℕ) → length xs ≤ i
    → front ++ spans_from ext (map placed_shown xs) (take i (map placed_shown xs)) (drop i (map placed_shown xs)) ≡ front
spans_end ext front xs i le =
    let past : length (map placed_shown xs) ≤ i = omega (arith, length-map xs placed_shown) in
    rw (drop_all i (map placed_shown xs) past) (append-nil front)

pub spans_begin : (ext : List Extent) (all : List SymbolRecord) → spans_of_taking ext all ≡ spans_from ext all (take 0 all) (drop 0 all)
unfolding spans_of_taking
spans_begin ext [] = refl
spans_begin ext (s ∷ rest) = refl

-- Each of the symbols takes part.
pub part_at : (ext : List Extent) (xs : List PlacedSymbol) (i : ℕ) (d : PlacedSymbol) → TakePart ext (map placed_shown xs) → i < length xs → takes_part ext (placed_shown (get_or xs i d)) ≡ true
part_at ext xs i d part lt =
    let within : i < length (map placed_shown xs) = omega (arith, length-map xs placed_shown) in
    let P : SymbolRecord → Type 0 = λ s. takes_part ext s ≡ true in
    subst P (get_or-map placed_shown xs i d (placed_shown d) lt) (part.each i (placed_shown d) within)

filter_takes : (ext : List Extent) (read : List SymbolRecord) → All (λ (s : SymbolRecord). takes_part ext s ≡ true) (filter (takes_part ext) read)
filter_takes ext read = filter_passes (takes_part ext) read

taken_reading : (ext : List Extent) (reading : Result (List SymbolRecord) BadFile) (taking : List SymbolRecord) → (reading >>= (λ read. Ok (filter (takes_part ext) read))) ≡ Ok taking → TakePart ext taking
taken_reading ext (Ok read) taking e =
    let same : filter (takes_part ext) read ≡ taking = cc in
    record { each = subst (λ (xs : List SymbolRecord). All (λ (s : SymbolRecord). takes_part ext s ≡ true) xs) same (filter_takes ext read) }
taken_reading ext (Err bad) taking e = cc

pub taken_part : (file : List ℕ) (t : SymbolTable) (ext : List Extent) (k n : ℕ) (taking : List SymbolRecord) → taken_from file t ext k n ≡ Ok taking → TakePart ext taking
unfolding taken_from
taken_part file t ext k n taking e = taken_reading ext (symbols_from file t k n) taking e

-- The spans of a table, as the steps of the search find them.
spans_reading : (ext : List Extent) (reading : Result (List SymbolRecord) BadFile)
    → (reading >>= (λ read. Ok (spans_of_taking ext (filter (takes_part ext) read)))) ≡ ((reading >>= (λ read. Ok (filter (takes_part ext) read))) >>= (λ taking. Ok (spans_of_taking ext taking)))
spans_reading ext (Ok read) = refl
spans_reading ext (Err bad) = refl

pub spans_are : (file : List ℕ) (t : SymbolTable) (ext : List Extent)
    → table_spans file t ext ≡ (taken_from file t ext 0 t.nsyms >>= (λ taking. Ok (spans_of_taking ext taking)))
unfolding table_spans taken_from
spans_are file t ext = spans_reading ext (symbols_from file t 0 t.nsyms)
