use Rattle.std.proofs.Common.{refl, inl}
use Rattle.rollup.proofs.sizes.ListSizes.add.Goals as goal

pub grow-requires-clause-within : goal.grow-requires-clause-within
grow-requires-clause-within c = (c.in-Some.ensures c.in-Some.i refl).within

pub returns-in-Some : goal.returns-in-Some
returns-in-Some c = let found = c.in-Some.ensures c.in-Some.i refl in inl (c.in-Some.i, record { within = found.within; there = found.there; set = c.grow.ensures })
