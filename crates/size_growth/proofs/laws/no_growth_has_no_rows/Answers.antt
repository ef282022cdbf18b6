use Rattle.size_growth.proofs.TurnLemmas.{no-growth}
use Rattle.size_growth.proofs.laws.no_growth_has_no_rows.Goals as goal

pub returns : goal.returns
returns c = no-growth
