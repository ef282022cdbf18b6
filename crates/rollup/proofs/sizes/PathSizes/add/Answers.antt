use Rattle.std.proofs.lemmas.Result.{on_ok_weaker}
use Rattle.rollup.proofs.Labels.{fits-later, grows-after}
use Rattle.rollup.proofs.sizes.PathSizes.add.Goals as goal

pub add-requires : goal.add-requires
add-requires c = fits-later c.args.part c.args.size c.self.inside.labels c.self.inside.lists (rw c.self.view_is c.requires)

pub returns : goal.returns
returns c = on_ok_weaker c.add.result (λ grew. rw (← c.self.view_is) (grows-after c.args.part c.args.numbers.now c.args.size c.self.inside.labels c.self.inside.lists c.add.new.self grew)) c.add.ensures
