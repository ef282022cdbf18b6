use Rattle.size_growth.proofs.GrowthOrderLemmas.{rows-show-growth}
use Rattle.size_growth.proofs.laws.rows_show_growth.Goals as goal

pub returns : goal.returns
returns c = rows-show-growth
