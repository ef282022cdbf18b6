use Rattle.std.proofs.Common.{◌≡◌, ◌++◌, ℕ, List, map, take, drop}
use Rattle.macho_symbols.specs.Names.{AreNamed, AreNamedSpans}
use Rattle.macho_symbols.specs.Shown.{named_shown, placed_shown}
use Rattle.macho_symbols.specs.Spans.{spans_from, spans_of_taking}
use Rattle.macho_symbols.proofs.spans.spans_of.Given as goal

abbrev pub invariant-rows : goal.invariant-rows
invariant-rows l = let all = map placed_shown l.symbols in record {
  same : map named_shown l.spans.items ++ spans_from l.extents all (take l.i all) (drop l.i all) ≡ spans_of_taking l.extents all;
  named : (file : List ℕ) → AreNamed file l.symbols → AreNamedSpans file l.spans.items;
}
