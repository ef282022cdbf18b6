use Rattle.std.proofs.Common.{◌≡◌, ◌-◌, ◌++◌, All}
use Rattle.std.specs.Option.{option_to_list}
use Rattle.size_core.specs.Gather.{gather}
use Rattle.size_model.specs.Loads.{IsLoad}
use Rattle.elf_claims.specs.Loads.{loads_of, slot_count, slot_load}
use Rattle.elf_claims.proofs.loads.loads_of.Given as goal

abbrev pub invariant-loop-i : goal.invariant-loop-i
invariant-loop-i l = record {
  are : l.loads.items ++ gather (λ i. option_to_list (slot_load l.file i)) l.i (slot_count l.file - l.i) ≡ loads_of l.file;
  fit : All IsLoad l.loads.items;
}
