use Rattle.std.proofs.Common.{refl, arith}
use Rattle.range_map.proofs.Pieces.{EndsBy-weaker}
use Rattle.range_map.proofs.Adding.{Fills-emitted, Fills-nothing}
use Rattle.range_map.proofs.appending.fill.Goals as goal

pub emit-requires-clause-ends : goal.emit-requires-clause-ends
emit-requires-clause-ends c = EndsBy-weaker _ c.args.from _ (omega arith) c.requires.ends

pub returns-in_ok-emit : goal.returns-in_ok-emit
returns-in_ok-emit c =
    Fills-emitted _ _ _ _ _ _ c.requires.ends refl (omega arith) (omega arith) c.in_ok-emit.ensures.laid c.in_ok-emit.ensures.ends

pub returns-else-start-end : goal.returns-else-start-end
returns-else-start-end c = Fills-nothing _ _ _ _ c.requires.tidy c.requires.ends c.requires.order (omega arith)
