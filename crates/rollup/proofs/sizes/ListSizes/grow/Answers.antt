use Rattle.std.proofs.Common.{◌<◌, length, map, arith}
use Rattle.std.proofs.lemmas.List.{length-map}
use Rattle.rollup.specs.Sizes.{entry_of_list}
use Rattle.rollup.proofs.Lists.{grown-list}
use Rattle.rollup.proofs.sizes.ListSizes.grow.Goals as goal

pub returns : goal.returns
returns c =
    let items = c.self.inside.items.items in
    let ns = c.self.inside.numbers.items in
    let seen : c.args.i < length (map (entry_of_list ns) items) = rw c.self.view_is c.requires.within in
    let within : c.args.i < length items = omega (arith, seen, length-map items (entry_of_list ns)) in
    rw (← c.self.view_is) (grown-list c.args.part c.args.size ns items c.args.i c.index_mut.result.now c.grow.new.self within c.index_mut.ensures.value c.grow.ensures)
