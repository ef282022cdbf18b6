use Rattle.dwarf_units.specs.Filling.{specs_at}
use Rattle.dwarf_claims.specs.Indexes.{IsFilled}
use Rattle.dwarf_claims.proofs.index.index_of.Given as goal

abbrev pub invariant-loop-declared : goal.invariant-loop-declared
invariant-loop-declared l = IsFilled l.table.declarations l.declared-iterator (specs_at l.index)
