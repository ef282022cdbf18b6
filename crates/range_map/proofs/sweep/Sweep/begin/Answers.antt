use Rattle.std.proofs.Common.{◌^◌, ◌∷◌, arith}
use Rattle.std.specs.BinaryHeap.{heap_items}
use Rattle.range_map.specs.Sweep.{at, no_piece, numbered, IsFirst}
use Rattle.range_map.proofs.Opening.{IsOpen-pushed, Keeps-pushed, label_in-whole}
use Rattle.range_map.proofs.Pieces.{EndsBy-get}
use Rattle.range_map.proofs.Segments.{IsLaidTo-whole}
use Rattle.range_map.proofs.sweep.Sweep.begin.Goals as goal

pub overflow_add-end : goal.overflow_add-end
overflow_add-end c =
    let e = EndsBy-get c.args.claims.now (2 ^ 97) c.args.number no_piece c.requires.fits c.requires.within in
    omega arith

pub emit-requires-clause-fits : goal.emit-requires-clause-fits
emit-requires-clause-fits c = EndsBy-get c.args.claims.now (2 ^ 97) c.args.number no_piece c.requires.fits c.requires.within

pub returns-then-comes_first-clause-laid : goal.returns-then-comes_first-clause-laid
returns-then-comes_first-clause-laid c =
    let first : IsFirst c.args.number (heap_items c.args.self.now.heap) = c.comes_first.ensures.0 c.if-comes_first.true in
    let l = c.if-end-next.true in
    IsLaidTo-whole c.args.claims.now (at c.args.claims.now c.args.number) c.args.self.now.out.items c.emit.new.out.items c.requires.laid c.in_ok-emit.ensures.laid c.in_ok-emit.ensures.ends (λ x a b. label_in-whole c.args.claims.now c.args.number c.args.next x (heap_items c.args.self.now.heap) c.requires.within c.requires.held first a b (omega arith))

pub returns-clause-opened : goal.returns-clause-opened
returns-clause-opened c =
    IsOpen-pushed c.args.claims.now c.args.number (heap_items c.args.self.now.heap) (heap_items c.push.new.self) c.requires.within c.requires.opened c.in_ok-push.ensures.permutation (c.in_ok-push.ensures.heap_order c.requires.opened.heap)

pub returns-clause-kept : goal.returns-clause-kept
returns-clause-kept c =
    Keeps-pushed c.args.claims.now (at c.args.claims.now c.args.number).start (numbered c.args.number ∷ heap_items c.args.self.now.heap) (heap_items c.push.new.self) c.in_ok-push.ensures.permutation
