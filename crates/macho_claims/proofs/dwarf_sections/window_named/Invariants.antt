use Rattle.std.proofs.Common.{◌≡◌, All}
use Rattle.std.specs.Prelude.{find}
use Rattle.macho_file.specs.WellFormed.{Fits}
use Rattle.macho_claims.specs.DebugSections.{is_debug, window_at, window_named}
use Rattle.macho_claims.proofs.dwarf_sections.window_named.Given as goal

abbrev pub invariant-loop-section : goal.invariant-loop-section
invariant-loop-section l = record {
  rest : window_at l.file (find (is_debug l.name) l.section-iterator) ≡ window_named l.file l.name;
  fit : All (Fits l.file) l.section-iterator;
}
