use Rattle.size_growth.proofs.TurnLemmas.{growth-turns}
use Rattle.size_growth.proofs.laws.growth_turns.Goals as goal

pub returns : goal.returns
returns c = growth-turns
