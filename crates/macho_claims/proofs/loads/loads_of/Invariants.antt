use Rattle.std.proofs.Common.{◌≡◌, ◌++◌, All}
use Rattle.size_model.specs.Loads.{IsLoad}
use Rattle.macho_file.specs.WellFormed.{HasAddresses}
use Rattle.macho_claims.specs.Loads.{loads_of}
use Rattle.macho_claims.proofs.SegmentLemmas.{loads_among}
use Rattle.macho_claims.proofs.loads.loads_of.Given as goal

abbrev pub invariant-loop-segment : goal.invariant-loop-segment
invariant-loop-segment l = record {
  are : l.loads.items ++ loads_among l.segment-iterator ≡ loads_of l.file;
  fit : All IsLoad l.loads.items;
  addresses : All HasAddresses l.segment-iterator;
}
