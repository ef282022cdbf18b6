use Rattle.size_growth.proofs.GrowthOrderLemmas.{one-growth}
use Rattle.size_growth.proofs.laws.one_growth_fits.Goals as goal

pub returns : goal.returns
returns c = one-growth
