-- The symbols of a table that take part.
use Rattle.std.specs.Prelude.{◌≡◌, ℕ, All, List, ◌++◌, Result, Ok, Err, MatchResult, true}
use Rattle.std.specs.List.{filter}
use Rattle.size_core.specs.declared.fault.BadFile.{BadFile}
use Rattle.size_core.specs.Checks.{◌>>=◌}
use Rattle.macho_symbols.specs.declared.answer.SpanAnswer.{SpanAnswer}
use Rattle.macho_symbols.specs.declared.answer.SpanAnswer.TheVariants.{Bad, NoMemory}
use Rattle.macho_symbols.specs.declared.extent.Extent.{Extent}
use Rattle.macho_symbols.specs.declared.symbol_table.SymbolTable.{SymbolTable}
use Rattle.macho_symbols.specs.Symbols.{SymbolRecord}
use Rattle.macho_symbols.specs.Spans.{symbols_from, takes_part}

-- The symbols that take part among count symbols from number k on, or the first fault.
unfoldable pub taken_from : List ℕ → SymbolTable → List Extent → ℕ → ℕ → Result (List SymbolRecord) BadFile
taken_from file t all k count = do
  read ← symbols_from file t k count
  Ok (filter (takes_part all) read)

-- These symbols and then those of a reading, or the reading's fault.
unfoldable pub prepend : List SymbolRecord → Result (List SymbolRecord) BadFile → Result (List SymbolRecord) BadFile
prepend front reading = do
  rest ← reading
  Ok (front ++ rest)

-- `P` holds of the fault of an answer. Out of memory has no fault, so nothing has to hold.
abbrev pub ForBad : SpanAnswer → (BadFile → Type 0) → Type 0
ForBad (Bad bad) P = P bad
ForBad NoMemory P = Unit {0}

-- The result is this reading: its value, or its fault, unless there was not enough memory.
abbrev pub Reads : {X Y : Type 0} → (X → Y) → Result X SpanAnswer → Result Y BadFile → Type 0
Reads shown result reading = MatchResult result (λ x. reading ≡ Ok (shown x)) (λ e. ForBad e (λ bad. reading ≡ Err bad))

-- Each of these symbols takes part.
pub record TakePart (all : List Extent) (taking : List SymbolRecord) : Type 0 where
  pub each : All (λ (s : SymbolRecord). takes_part all s ≡ true) taking
