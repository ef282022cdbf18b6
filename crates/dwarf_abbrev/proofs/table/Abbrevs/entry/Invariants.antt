use Rattle.std.proofs.Common.{◌≡◌}
use Rattle.dwarf_abbrev.specs.Declarations.{declared}
use Rattle.dwarf_abbrev.proofs.table.Abbrevs.entry.Given as goal

abbrev pub invariant-loop-entry : goal.invariant-loop-entry
invariant-loop-entry l = declared l.self.declarations l.code ≡ declared l.entry-iterator l.code
