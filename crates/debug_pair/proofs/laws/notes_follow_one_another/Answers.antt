use Rattle.debug_pair.proofs.NoteLemmas.{none_left, one_more}
use Rattle.debug_pair.proofs.laws.notes_follow_one_another.Goals as goal

pub returns : goal.returns
returns c = record { more = one_more; end = none_left }
