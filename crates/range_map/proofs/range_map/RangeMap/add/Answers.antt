use Rattle.std.proofs.Common.{arith}
use Rattle.std.proofs.lemmas.List.{drop_more, drop_all}
use Rattle.range_map.proofs.Pieces.{EndsBy-weaker}
use Rattle.range_map.proofs.Counts.{place_count-added}
use Rattle.range_map.proofs.Places.{KeepsPlaces-laid}
use Rattle.range_map.proofs.Adding.{Swept-turn, Swept-end}
use Rattle.range_map.proofs.range_map.RangeMap.add.Goals as goal

pub loop-piece-preserved : goal.loop-piece-preserved
loop-piece-preserved c =
    let split = drop_more c.deref-piece-items.result.now c.loop-piece.piece-index (record { start = 0; len = 0; label = 0 }) c.loop-piece-test.true in
    Swept-turn _ _ _ _ _ _ _ _ (rw split at c.loop-piece.invariant) c.in_ok-fill.ensures c.in_ok-emit.ensures.laid c.in_ok-emit.ensures.ends

pub invariant_of-self : goal.invariant_of-self
invariant_of-self c = record {
  tidy = c.in_ok-fill-2.ensures.tidy;
  fits = EndsBy-weaker _ c.max-to.result _ (omega arith) c.in_ok-fill-2.ensures.ends;
}

pub returns-clause-ok : goal.returns-clause-ok
returns-clause-ok c =
    let past = drop_all c.loop-piece.piece-index c.deref-piece-items.result.now c.loop-piece-test.false in
    let laid = Swept-end _ _ c.loop-piece.from c.loop-piece.out.items c.fill-2.new.out.items (rw past at c.loop-piece.invariant) (rw c.max-to.ensures at c.in_ok-fill-2.ensures) in
    rw (← c.self.view_is, ← c.deref-piece-items.ensures.value, ← c.from.ensures) laid

pub returns-clause-places : goal.returns-clause-places
returns-clause-places c = KeepsPlaces-laid _ _ (returns-clause-ok c)

pub returns-clause-place_count : goal.returns-clause-place_count
returns-clause-place_count c n = place_count-added _ _ _ n (returns-clause-places c)
