use Rattle.std.proofs.Common.{◌+◌, sym, ap, subst, rules, arith}
use Rattle.range_map.specs.Ranges.{EndsBy}
use Rattle.range_map.proofs.Pieces.{EndsBy-weaker}
use Rattle.dual_map.specs.declared.stretch.Stretch.{Stretch}
use Rattle.dual_map.specs.Layout.{Layout}
use Rattle.dual_map.specs.Paint.{position_labels}
use Rattle.dual_map.specs.Way.{ToMemory}
use Rattle.size_model.specs.Cut.{end_of, IsCut}
use Rattle.dual_map.proofs.WalkLemmas.{load_fits, lies_from_get, position_piece, gap_small, from_by_start, reaches_get, position_within, position_past, up_to_all, IsCut-labelled}
use Rattle.dual_map.proofs.base.Base.vm_map.Goals as goal

pub index-requires : goal.index-requires
index-requires c =
    let b = c.self.inside in
    let q = position_piece b.loads.items b.positions c.loop-i.i c.piece_of-piece.result c.self.invariant.ends c.self.invariant.positions c.piece_of-piece.ensures.value in
    omega (arith, q.within, b.loads.ok.0)

pub to_memory-stretch-requires-clause-load_fits : goal.to_memory-stretch-requires-clause-load_fits
to_memory-stretch-requires-clause-load_fits c =
    let b = c.self.inside in
    let q = position_piece b.loads.items b.positions c.loop-i.i c.piece_of-piece.result c.self.invariant.ends c.self.invariant.positions c.piece_of-piece.ensures.value in
    load_fits b.loads.items c.piece_of-piece.result c.index.result.now c.self.invariant.loads_fit c.index.ensures q.within

pub to_memory-stretch-requires-clause-lies : goal.to_memory-stretch-requires-clause-lies
to_memory-stretch-requires-clause-lies c =
    let b = c.self.inside in
    let q = position_piece b.loads.items b.positions c.loop-i.i c.piece_of-piece.result c.self.invariant.ends c.self.invariant.positions c.piece_of-piece.ensures.value in
    lies_from_get ToMemory b.loads.items c.piece_of-piece.result c.index.result.now q c.index.ensures

pub paint-requires-clause-ends : goal.paint-requires-clause-ends
paint-requires-clause-ends c =
    let inv = c.loop-i.invariant in
    let p = c.piece_of-piece.result in
    subst (λ n. EndsBy n c.loop-i.out.items) (sym (ap (λ (s : Stretch). s.target) c.to_memory-stretch.ensures.value)) (EndsBy-weaker c.loop-i.out.items inv.0 p.start (from_by_start c.self.inside.positions c.loop-i.i inv.0 p inv.1 c.piece_of-piece.ensures.value) inv.2.ends)

pub paint-requires-in-loop-i-clause-small : goal.paint-requires-in-loop-i-clause-small
paint-requires-in-loop-i-clause-small c =
    let b = c.self.inside in
    let p = c.piece_of-piece.result in
    let lies = (position_piece b.loads.items b.positions c.loop-i.i p c.self.invariant.ends c.self.invariant.positions c.piece_of-piece.ensures.value).lies in
    let part = ap (λ (s : Stretch). s.len) c.to_memory-stretch.ensures.value in
    gap_small (p.start + c.to_memory-stretch.result.len) (end_of p) c.gap-rest.result c.gap-rest.ensures (omega (arith, part)) (omega (arith, lies.fits)) (omega (arith, c.to_memory-stretch.ensures.len_fits))

pub loop-i-preserved : goal.loop-i-preserved
loop-i-preserved c =
    let b = c.self.inside in
    let p = c.piece_of-piece.result in
    let inv = c.loop-i.invariant in (
      end_of p,
      reaches_get b.positions c.loop-i.i inv.0 p c.self.invariant.positions.tidy inv.1 c.piece_of-piece.ensures.value,
      position_within b.file_len b.loads.items c.args.layers.now b.positions c.loop-i.i inv.0 p c.to_memory-stretch.result c.gap-rest.result c.index.result.now _ _ c.loop-i.out.items c.paint.new.out.items c.paint-in-loop-i.new.out.items c.self.invariant.ends c.self.invariant.positions inv.1 c.piece_of-piece.ensures.value inv.2 c.in_ok-paint.ensures c.in_ok-paint-2.ensures c.to_memory-stretch.ensures.value c.index.ensures c.gap-rest.ensures c.as_slice-labels.ensures.value (search rules),
    )

pub of_pieces-requires : goal.of_pieces-requires
of_pieces-requires c =
    let b = c.self.inside in
    let inv = c.loop-i.invariant in
    (up_to_all (position_labels b.file_len b.loads.items c.args.layers.now) inv.0 c.loop-i.out.items inv.2 (λ x h. position_past b.file_len b.loads.items c.args.layers.now b.positions c.loop-i.i inv.0 x c.self.invariant.positions inv.1 (omega (arith, c.loop-i-test.false, c.len-i-end.ensures.count)) h)).pieces

pub returns : goal.returns
returns c =
    let b = c.self.inside in
    let inv = c.loop-i.invariant in
    let labelled = up_to_all (position_labels b.file_len b.loads.items c.args.layers.now) inv.0 c.loop-i.out.items inv.2 (λ x h. position_past b.file_len b.loads.items c.args.layers.now b.positions c.loop-i.i inv.0 x c.self.invariant.positions inv.1 (omega (arith, c.loop-i-test.false, c.len-i-end.ensures.count)) h) in
    subst (λ (y : Layout). IsCut (position_labels y.len y.loads c.args.layers.now) c.of_pieces.result) c.self.view_is
    (subst (IsCut (position_labels b.file_len b.loads.items c.args.layers.now)) (sym c.of_pieces.ensures) (IsCut-labelled _ c.loop-i.out.items labelled))
