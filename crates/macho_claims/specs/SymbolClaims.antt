-- The claims of symbols (mach-o/nlist.h).
use Rattle.std.specs.Prelude.{ℕ, List, Result, Ok}
use Rattle.std.specs.List.{flat_map}
use Rattle.size_core.specs.declared.fault.BadFile.{BadFile}
use Rattle.size_core.specs.Checks.{◌>>=◌}
use Rattle.size_model.specs.declared.view.LabelledClaim.{LabelledClaim}
use Rattle.macho_symbols.specs.Spans.{SpanRecord}
use Rattle.macho_file.specs.Spans.{spans}
use Rattle.claim_sheet.specs.Reaches.{claim_on, in_memory, span}

-- The claim of the span of a symbol: its addresses, under the name of the symbol (mach-o/nlist.h).
unfoldable pub span_claim : SpanRecord → List LabelledClaim
span_claim s = claim_on (in_memory (span 0 s.start s.len)) s.name

-- The claims of all spans, in the order of the symbol table, or the first fault of the table or of a symbol
-- (mach-o/nlist.h).
unfoldable pub symbols_claims : List ℕ → Result (List LabelledClaim) BadFile
symbols_claims file = do
  all ← spans file
  Ok (flat_map span_claim all)
