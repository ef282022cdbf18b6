use Rattle.std.proofs.Common.{◌≡◌, ◌+◌, ◌^◌, ◌≤◌, length, sym, subst, arith}
use Rattle.std.specs.BinaryHeap.{heap_items}
use Rattle.range_map.specs.Sweep.{no_piece, start_at, Holds, IsLaidTo, IsOpen}
use Rattle.range_map.specs.Starts.{pairs_of}
use Rattle.range_map.proofs.Pieces.{EndsBy-get}
use Rattle.range_map.proofs.Segments.{Holds-from_first, Holds-next, HoldsFirst-begun, IsLaid-at_end, Reads-start, start_at-next, start_at-past}
use Rattle.range_map.proofs.sweep.pieces_of.Goals as goal

pub lay_open-requires-clause-held : goal.lay_open-requires-clause-held
lay_open-requires-clause-held c =
    let r = Reads-start c.args.claims.now (pairs_of c.args.starts.now) c.loop-i.i c.start-start.result c.number-number.result c.requires.same (omega arith) c.start-start.ensures c.number-number.ensures in
    subst (λ n. Holds c.args.claims.now c.loop-i.from n (heap_items c.loop-i.sweep.heap)) r.position (Holds-from_first c.args.claims.now (pairs_of c.args.starts.now) c.loop-i.i c.loop-i.from (heap_items c.loop-i.sweep.heap) c.requires.same c.requires.sorted c.loop-i.invariant.held)

pub lay_open-requires-clause-to_fits : goal.lay_open-requires-clause-to_fits
lay_open-requires-clause-to_fits c =
    let r = Reads-start c.args.claims.now (pairs_of c.args.starts.now) c.loop-i.i c.start-start.result c.number-number.result c.requires.same (omega arith) c.start-start.ensures c.number-number.ensures in
    let e = EndsBy-get c.args.claims.now (2 ^ 97) c.number-number.result no_piece c.requires.fits r.within in
    omega arith

pub begin-requires-clause-within : goal.begin-requires-clause-within
begin-requires-clause-within c =
    (Reads-start c.args.claims.now (pairs_of c.args.starts.now) c.loop-i.i c.start-start.result c.number-number.result c.requires.same (omega arith) c.start-start.ensures c.number-number.ensures).within

pub begin-requires-clause-opened : goal.begin-requires-clause-opened
begin-requires-clause-opened c =
    let r = Reads-start c.args.claims.now (pairs_of c.args.starts.now) c.loop-i.i c.start-start.result c.number-number.result c.requires.same (omega arith) c.start-start.ensures c.number-number.ensures in
    subst (λ n. IsOpen c.args.claims.now n (heap_items c.lay_open.new.self.heap)) (sym r.start) c.in_ok-lay_open.ensures.opened

pub begin-requires-clause-held : goal.begin-requires-clause-held
begin-requires-clause-held c =
    let r = Reads-start c.args.claims.now (pairs_of c.args.starts.now) c.loop-i.i c.start-start.result c.number-number.result c.requires.same (omega arith) c.start-start.ensures c.number-number.ensures in
    let a = c.loop-i.invariant.ahead in
    let e = c.start-next.ensures in
    Holds-next c.args.claims.now (pairs_of c.args.starts.now) c.loop-i.i c.loop-i.from c.start-next.result (c.start-start.result, c.number-number.result) (heap_items c.loop-i.sweep.heap) (heap_items c.lay_open.new.self.heap) c.requires.same c.requires.sorted r (omega arith) c.loop-i.invariant.held c.in_ok-lay_open.ensures.kept e

pub begin-requires-clause-laid : goal.begin-requires-clause-laid
begin-requires-clause-laid c =
    let r = Reads-start c.args.claims.now (pairs_of c.args.starts.now) c.loop-i.i c.start-start.result c.number-number.result c.requires.same (omega arith) c.start-start.ensures c.number-number.ensures in
    subst (λ n. IsLaidTo c.args.claims.now n c.lay_open.new.self.out.items) (sym r.start) c.in_ok-lay_open.ensures.laid

pub begin-requires-clause-order : goal.begin-requires-clause-order
begin-requires-clause-order c =
    let r = Reads-start c.args.claims.now (pairs_of c.args.starts.now) c.loop-i.i c.start-start.result c.number-number.result c.requires.same (omega arith) c.start-start.ensures c.number-number.ensures in
    let n = start_at-next c.args.claims.now (pairs_of c.args.starts.now) c.loop-i.i (c.start-start.result, c.number-number.result) c.requires.fits r c.requires.sorted in
    let e : c.start-next.result ≡ start_at (pairs_of c.args.starts.now) (c.loop-i.i + 1) = c.start-next.ensures in
    omega arith

pub loop-i-preserved : goal.loop-i-preserved
loop-i-preserved c =
    let r = Reads-start c.args.claims.now (pairs_of c.args.starts.now) c.loop-i.i c.start-start.result c.number-number.result c.requires.same (omega arith) c.start-start.ensures c.number-number.ensures in
    let a = c.loop-i.invariant.ahead in
    let e : c.start-next.result ≡ start_at (pairs_of c.args.starts.now) (c.loop-i.i + 1) = c.start-next.ensures in
    record {
      ahead = omega (arith, c.in_ok-from.ensures.before);
      opened = c.in_ok-from.ensures.opened;
      held = HoldsFirst-begun c.args.claims.now (pairs_of c.args.starts.now) c.loop-i.i c.loop-i.from c.in_ok-from.from (c.start-start.result, c.number-number.result) (heap_items c.loop-i.sweep.heap) (heap_items c.lay_open.new.self.heap) (heap_items c.begin.new.self.heap) r (omega arith) c.in_ok-from.ensures.after c.loop-i.invariant.held c.in_ok-lay_open.ensures.kept c.in_ok-from.ensures.kept;
      laid = c.in_ok-from.ensures.laid;
    }

pub lay_open-requires-2-clause-held : goal.lay_open-requires-2-clause-held
lay_open-requires-2-clause-held c =
    let past : length (pairs_of c.args.starts.now) ≤ c.loop-i.i = omega arith in
    subst (λ n. Holds c.args.claims.now c.loop-i.from n (heap_items c.loop-i.sweep.heap)) (start_at-past (pairs_of c.args.starts.now) c.loop-i.i past) (Holds-from_first c.args.claims.now (pairs_of c.args.starts.now) c.loop-i.i c.loop-i.from (heap_items c.loop-i.sweep.heap) c.requires.same c.requires.sorted c.loop-i.invariant.held)

pub returns : goal.returns
returns c = IsLaid-at_end c.args.claims.now (2 ^ 97) c.lay_open-2.new.self.out.items c.requires.fits c.in_ok-lay_open-2.ensures.laid
