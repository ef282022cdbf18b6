use Rattle.dwarf_ranges.proofs.SetLemmas.{sets_follow}
use Rattle.dwarf_ranges.proofs.laws.sets_are_read_one_after_another.Goals as goal

pub returns : goal.returns
returns c = sets_follow
