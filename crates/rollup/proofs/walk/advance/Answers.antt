use Rattle.std.proofs.Common.{◌≡◌, ◌<◌, [], length, get_or, sym, ◌∙◌, arith}
use Rattle.std.proofs.lemmas.List.{length-map}
use Rattle.rollup.specs.Walk.{layers, pieces_of}
use Rattle.rollup.proofs.Walking.{layer-at, moving-step, reads-next}
use Rattle.rollup.proofs.walk.advance.Goals as goal

pub loop-i-preserved : goal.loop-i-preserved
loop-i-preserved g c =
    let pss = layers c.args.part c.args.maps.now in
    let within : c.loop-i.i < length c.args.maps.now = omega arith in
    let layer : get_or pss c.loop-i.i [] ≡ c.map_of.result.now = layer-at c.args.part c.args.maps.now c.loop-i.i c.index-maps-i.result within c.index-maps-i.is ∙ sym c.map_of.ensures.value in
    let lt : c.loop-i.i < length pss = omega (arith, length-map c.args.maps.now (pieces_of c.args.part)) in
    let cost = reads-next pss c.loop-i.cursors c.loop-i.i c.map_of.result.now c.after.result c.loop-i.invariant.moving.len lt layer in
    record {
      moving = moving-step pss c.args.to c.loop-i.i c.loop-i.cursors c.map_of.result.now c.after.result lt layer c.after.ensures.at c.loop-i.invariant.moving;
      cost = omega (arith, cost, c.after.ensures.cost, c.loop-i.invariant.cost);
    }
