use Rattle.range_map.proofs.InOrder.{added-built}
use Rattle.range_map.proofs.laws.adding_in_order_builds.Goals as goal

pub returns : goal.returns
returns c ranges added built a b = added-built ranges added built a b
