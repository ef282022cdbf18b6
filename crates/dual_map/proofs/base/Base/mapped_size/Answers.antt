use Rattle.std.proofs.Common.{◌≡◌, ◌+◌, is_some, take, ap, ◌∙◌, arith}
use Rattle.std.proofs.lemmas.List.{take_all}
use Rattle.std.proofs.lemmas.Option.{get_or_from_slice_get, slice_get_within}
use Rattle.size_model.specs.declared.piece.Piece.{Piece}
use Rattle.size_model.specs.Loads.{mapped_count}
use Rattle.range_map.proofs.Counts.{size_of, size_of-more, size_of-take}
use Rattle.dual_map.specs.Layout.{Layout}
use Rattle.dual_map.proofs.BaseLemmas.{size-mapped, mapped_count_le}
use Rattle.dual_map.proofs.base.Base.mapped_size.Goals as goal

pub loop-i-preserved : goal.loop-i-preserved
loop-i-preserved c =
    let ps = c.self.inside.positions in
    let p = c.piece_of-piece.result in
    let within = slice_get_within ps c.loop-i.i p c.piece_of-piece.ensures.value in
    let same = ap (λ (q : Piece). q.len) (get_or_from_slice_get ps c.loop-i.i p p c.piece_of-piece.ensures.value) in
    let more = size_of-more is_some ps c.loop-i.i p within in
    let now : c.loop-i.total ≡ size_of is_some (take c.loop-i.i ps) = c.loop-i.invariant in
    let all : c.loop-i.total + p.len ≡ size_of is_some (take (c.loop-i.i + 1) ps) = omega arith in
    all

pub overflow_add-total : goal.overflow_add-total
overflow_add-total c =
    let ps = c.self.inside.positions in
    let p = c.piece_of-piece.result in
    let within = slice_get_within ps c.loop-i.i p c.piece_of-piece.ensures.value in
    let same = ap (λ (q : Piece). q.len) (get_or_from_slice_get ps c.loop-i.i p p c.piece_of-piece.ensures.value) in
    let more = size_of-more is_some ps c.loop-i.i p within in
    let now : c.loop-i.total ≡ size_of is_some (take c.loop-i.i ps) = c.loop-i.invariant in
    let part = size_of-take is_some ps (c.loop-i.i + 1) in
    let whole = size-mapped c.self.inside.loads.items ps c.self.invariant.ends c.self.invariant.positions in
    let most = mapped_count_le c.self.inside.loads.items in
    omega arith

pub returns : goal.returns
returns c =
    let ps = c.self.inside.positions in
    let now : c.loop-i.total ≡ size_of is_some (take c.loop-i.i ps) = c.loop-i.invariant in
    let whole = size-mapped c.self.inside.loads.items ps c.self.invariant.ends c.self.invariant.positions in
    now ∙ (ap (size_of is_some) (take_all c.loop-i.i ps (omega arith)) ∙ (whole ∙ ap (λ (l : Layout). mapped_count l.loads) c.self.view_is))
