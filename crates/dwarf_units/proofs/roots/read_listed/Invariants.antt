use Rattle.std.proofs.Common.{◌≡◌, drop}
use Rattle.dwarf_units.specs.Filling.{filled_from}
use Rattle.dwarf_units.specs.Roots.{shown_root}
use Rattle.dwarf_units.proofs.roots.read_listed.Given as goal

abbrev pub invariant-loop-spec : goal.invariant-loop-spec
invariant-loop-spec l = filled_from l.shape l.specs l.fn.cursor (shown_root l.fn.root) ≡ filled_from l.shape (drop l.spec-index l.specs) l.cursor (shown_root l.root)
