use Rattle.std.proofs.Common.{◌≡◌, drop, map}
use Rattle.std.specs.List.{flat_map}
use Rattle.macho_symbols.specs.Shown.{named_shown}
use Rattle.claim_sheet.specs.Sheets.{adding}
use Rattle.claim_sheet.specs.LongNames.{AreKnownNames, AreNames}
use Rattle.macho_claims.specs.SymbolClaims.{span_claim}
use Rattle.macho_claims.proofs.symbols.add_spans.Given as goal

abbrev pub invariant-loop-symbol : goal.invariant-loop-symbol
invariant-loop-symbol l = record {
  rest : adding l.sheet (flat_map span_claim (drop l.symbol-index (map named_shown l.spans))) ≡ adding l.initial.sheet (flat_map span_claim (map named_shown l.spans));
  kept : l.sheet.pool ≡ l.initial.sheet.pool;
  file : l.names.file ≡ l.initial.names.file;
  names : AreNames l.names;
  known : AreKnownNames l.sheet.made l.names;
}
