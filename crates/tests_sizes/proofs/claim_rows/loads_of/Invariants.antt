use Rattle.std.proofs.Common.{All}
use Rattle.size_model.specs.Loads.{IsLoad}
use Rattle.tests_sizes.proofs.claim_rows.loads_of.Given as goal

abbrev pub invariant-loop-space : goal.invariant-loop-space
invariant-loop-space g l = All IsLoad l.out.items
