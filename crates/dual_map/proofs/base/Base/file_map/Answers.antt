use Rattle.std.proofs.Common.{max, length, refl, sym, ap, subst, rules, arith}
use Rattle.range_map.specs.Ranges.{EndsBy}
use Rattle.dual_map.specs.declared.stretch.Stretch.{Stretch}
use Rattle.dual_map.specs.Layout.{Layout}
use Rattle.dual_map.specs.Paint.{offset_labels}
use Rattle.size_model.specs.Cut.{IsCut}
use Rattle.dual_map.specs.Way.{ToFile}
use Rattle.dual_map.proofs.BaseLemmas.{length-offsets, length-positions}
use Rattle.dual_map.proofs.ClaimLemmas.{mapped_below}
use Rattle.dual_map.proofs.WalkLemmas.{load_fits, lies_from_get, offset_piece, piece_fits, gap_small, from_by_start, reaches_get, offset_before, offset_within, offset_after, IsCut-labelled}
use Rattle.dual_map.proofs.base.Base.file_map.Goals as goal

pub paint-requires-clause-small : goal.paint-requires-clause-small
paint-requires-clause-small c =
    let b = c.self.inside in
    let p = c.piece_of-piece.result in
    let fits = piece_fits b.file_len b.loads.items b.offsets c.loop-i.i p c.self.invariant.offsets c.piece_of-piece.ensures.value in
    let small = c.self.invariant.len_fits in
    gap_small c.loop-i.from p.start c.gap-before.result c.gap-before.ensures (from_by_start b.offsets c.loop-i.i c.loop-i.from p c.loop-i.invariant.reaches c.piece_of-piece.ensures.value) (omega arith) (omega arith)

pub index-requires : goal.index-requires
index-requires c =
    let b = c.self.inside in
    let q = offset_piece b.file_len b.loads.items b.offsets c.loop-i.i c.piece_of-piece.result c.self.invariant.len_fits c.self.invariant.offsets c.piece_of-piece.ensures.value in
    omega (arith, q.within, b.loads.ok.0)

pub to_file-stretch-requires-clause-load_fits : goal.to_file-stretch-requires-clause-load_fits
to_file-stretch-requires-clause-load_fits c =
    let b = c.self.inside in
    let q = offset_piece b.file_len b.loads.items b.offsets c.loop-i.i c.piece_of-piece.result c.self.invariant.len_fits c.self.invariant.offsets c.piece_of-piece.ensures.value in
    load_fits b.loads.items c.piece_of-piece.result c.index.result.now c.self.invariant.loads_fit c.index.ensures q.within

pub to_file-stretch-requires-clause-lies : goal.to_file-stretch-requires-clause-lies
to_file-stretch-requires-clause-lies c =
    let b = c.self.inside in
    let q = offset_piece b.file_len b.loads.items b.offsets c.loop-i.i c.piece_of-piece.result c.self.invariant.len_fits c.self.invariant.offsets c.piece_of-piece.ensures.value in
    lies_from_get ToFile b.loads.items c.piece_of-piece.result c.index.result.now q c.index.ensures

pub to_file-stretch-requires-clause-len_fits : goal.to_file-stretch-requires-clause-len_fits
to_file-stretch-requires-clause-len_fits c =
    let b = c.self.inside in
    omega (arith, piece_fits b.file_len b.loads.items b.offsets c.loop-i.i c.piece_of-piece.result c.self.invariant.offsets c.piece_of-piece.ensures.value, c.self.invariant.len_fits)

pub paint-requires-in-loop-i-clause-ends : goal.paint-requires-in-loop-i-clause-ends
paint-requires-in-loop-i-clause-ends c =
    let b = c.self.inside in
    let p = c.piece_of-piece.result in
    let mid = offset_before b.file_len b.loads.items c.args.layers.now b.offsets c.loop-i.i c.loop-i.from p c.gap-before.result _ _ c.loop-i.out.items c.paint.new.out.items c.self.invariant.offsets c.loop-i.invariant.reaches c.piece_of-piece.ensures.value c.loop-i.invariant.labels c.in_ok-paint.ensures c.gap-before.ensures c.as_slice-labels.ensures.value (search rules) in
    subst (λ n. EndsBy n c.paint.new.out.items) (sym (ap (λ (s : Stretch). s.target) c.to_file-stretch.ensures.value)) mid.ends

pub loop-i-preserved : goal.loop-i-preserved
loop-i-preserved c =
    let b = c.self.inside in
    let p = c.piece_of-piece.result in
    let mid = offset_before b.file_len b.loads.items c.args.layers.now b.offsets c.loop-i.i c.loop-i.from p c.gap-before.result _ _ c.loop-i.out.items c.paint.new.out.items c.self.invariant.offsets c.loop-i.invariant.reaches c.piece_of-piece.ensures.value c.loop-i.invariant.labels c.in_ok-paint.ensures c.gap-before.ensures c.as_slice-labels.ensures.value (search rules) in
    record {
      reaches = reaches_get b.offsets c.loop-i.i c.loop-i.from p c.self.invariant.offsets.tidy c.loop-i.invariant.reaches c.piece_of-piece.ensures.value;
      labels = offset_within b.file_len b.loads.items c.args.layers.now b.offsets c.loop-i.i p c.to_file-stretch.result c.index.result.now _ c.paint.new.out.items c.paint-in-loop-i.new.out.items c.self.invariant.len_fits c.self.invariant.offsets c.piece_of-piece.ensures.value mid c.in_ok-paint-2.ensures c.to_file-stretch.ensures.value c.index.ensures c.as_slice-labels.ensures.value;
      within = piece_fits b.file_len b.loads.items b.offsets c.loop-i.i p c.self.invariant.offsets c.piece_of-piece.ensures.value;
    }

pub of_pieces-requires : goal.of_pieces-requires
of_pieces-requires c =
    let b = c.self.inside in
    let inv = c.loop-i.invariant in
    (offset_after b.file_len b.loads.items c.args.layers.now b.offsets c.loop-i.i c.loop-i.from _ c.gap-after.result _ _ c.loop-i.out.items c.paint-2.new.out.items c.self.invariant.offsets inv.reaches (omega (arith, c.loop-i-test.false, c.len-i-end.ensures.count)) inv.within inv.labels c.in_ok-paint-3.ensures c.gap-after.ensures (search rules) c.as_slice-labels.ensures.value (search rules)).pieces

pub returns-clause-cut : goal.returns-clause-cut
returns-clause-cut c =
    let b = c.self.inside in
    let inv = c.loop-i.invariant in
    let labelled = offset_after b.file_len b.loads.items c.args.layers.now b.offsets c.loop-i.i c.loop-i.from _ c.gap-after.result _ _ c.loop-i.out.items c.paint-2.new.out.items c.self.invariant.offsets inv.reaches (omega (arith, c.loop-i-test.false, c.len-i-end.ensures.count)) inv.within inv.labels c.in_ok-paint-3.ensures c.gap-after.ensures (search rules) c.as_slice-labels.ensures.value (search rules) in
    subst (λ (y : Layout). IsCut (offset_labels y.len y.loads c.args.layers.now) c.of_pieces.result) c.self.view_is
    (subst (IsCut (offset_labels b.file_len b.loads.items c.args.layers.now)) (sym c.of_pieces.ensures) (IsCut-labelled _ c.paint-2.new.out.items labelled))

pub returns-clause-layout : goal.returns-clause-layout
returns-clause-layout c =
    let b = c.self.inside in
    let few = length-offsets b.file_len b.loads.items b.offsets c.self.invariant.offsets in
    let little = length-positions b.loads.items b.positions c.self.invariant.loads_fit c.self.invariant.positions in
    rw (← c.self.view_is) (record {
      len_fits = c.self.invariant.len_fits;
      loads_fit = c.self.invariant.loads_fit;
      mapped_fits = λ p h. mapped_below b.loads.items b.positions p c.self.invariant.ends c.self.invariant.positions h;
      pieces = (max (length b.offsets) (length b.positions), record { offsets = b.offsets; positions = b.positions; offsets_cut = c.self.invariant.offsets; positions_cut = c.self.invariant.positions; larger = refl }, omega arith);
    })
