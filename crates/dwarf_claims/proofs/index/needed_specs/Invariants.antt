use Rattle.std.proofs.Common.{◌++◌}
use Rattle.dwarf_units.specs.Filling.{GiveSameRoots}
use Rattle.dwarf_claims.specs.Indexes.{AreAmong}
use Rattle.dwarf_claims.proofs.index.needed_specs.Given as goal

abbrev pub invariant-loop-spec : goal.invariant-loop-spec
invariant-loop-spec l = record {
  same : GiveSameRoots (l.needed.specs.items ++ l.spec-iterator.specs) l.fn.declared.specs;
  among : AreAmong l.needed.bare.items l.needed.specs.items;
}
