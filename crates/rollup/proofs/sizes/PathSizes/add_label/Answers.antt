use Rattle.std.proofs.Common.{◌≡◌, ◌∷◌, [], refl}
use Rattle.std.proofs.lemmas.Result.{on_ok_weaker}
use Rattle.rollup.proofs.Labels.{fits-later, grows-before, grows-after}
use Rattle.rollup.proofs.sizes.PathSizes.add_label.Goals as goal

pub grow-requires-clause-within : goal.grow-requires-clause-within
grow-requires-clause-within c = (c.in-Some.ensures c.in-Some.i refl).within

pub returns-in-Some : goal.returns-in-Some
returns-in-Some c = rw (← c.self.view_is) (grows-before c.args.part (c.args.label ∷ []) c.args.size c.self.inside.labels c.self.inside.lists c.grow.new.self c.in-Some.i (c.in-Some.ensures c.in-Some.i refl) c.grow.ensures)

pub add-requires : goal.add-requires
add-requires c = fits-later c.args.part c.args.size c.self.inside.labels c.self.inside.lists (rw c.self.view_is c.requires)

pub returns : goal.returns
returns c =
    let numbers : c.from_ref.result.now ≡ c.args.label ∷ [] = c.from_ref.ensures.value in
    on_ok_weaker c.add.result (λ grew. rw (← c.self.view_is) (grows-after c.args.part (c.args.label ∷ []) c.args.size c.self.inside.labels c.self.inside.lists c.add.new.self (rw (← numbers) grew))) c.add.ensures
