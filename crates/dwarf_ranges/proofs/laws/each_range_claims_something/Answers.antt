use Rattle.dwarf_ranges.proofs.ClaimLemmas.{ranges_claim}
use Rattle.dwarf_ranges.proofs.laws.each_range_claims_something.Goals as goal

pub returns : goal.returns
returns c = ranges_claim
