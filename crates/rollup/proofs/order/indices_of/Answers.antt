use Rattle.std.proofs.Common.{length, arith}
use Rattle.std.proofs.lemmas.List.{length-set}
use Rattle.rollup.proofs.Ranks.{numbers_below, index_more}
use Rattle.rollup.proofs.order.indices_of.Goals as goal

pub index_mut-requires : goal.index_mut-requires
index_mut-requires c =
    let below = numbers_below (length c.args.numbers.now) c.args.numbers.now c.requires c.loop-index.index 0 (omega arith) in
    omega (arith, c.loop-index.indices.ok.0, c.loop-index.invariant.count)

pub loop-index-preserved : goal.loop-index-preserved
loop-index-preserved c = record {
  count = simp length-set c.loop-index.invariant.count;
  index = index_more c.args.numbers.now c.loop-index.indices.items c.loop-index.index c.requires c.loop-index.invariant.count (omega arith) c.loop-index.invariant.index;
}
