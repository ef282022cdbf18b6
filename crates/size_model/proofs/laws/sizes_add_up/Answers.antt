use Rattle.size_model.proofs.Children.{ChildrenAddUp-all}
use Rattle.size_model.proofs.laws.sizes_add_up.Goals as goal

pub returns : goal.returns
returns c = ChildrenAddUp-all
