use Rattle.std.proofs.Common.{All, sym, subst, arith}
use Rattle.std.proofs.lemmas.List.Elements.{All-push}
use Rattle.dual_map.specs.Layout.{IsOver, LabelsBelow}
use Rattle.tests_sizes.proofs.totals.maps_of.Goals as goal

pub loop-claims-preserved : goal.loop-claims-preserved
loop-claims-preserved g c =
    let made = c.in_ok-map_of.ensures in
    record {
      count = omega (arith, c.in_ok-push.ensures.len, c.push.new.self.ok.0, c.loop-claims.maps.ok.0, c.loop-claims.invariant.count);
      over = subst (All (IsOver c.args.base.now)) (sym c.in_ok-push.ensures.items) (All-push (IsOver c.args.base.now) c.loop-claims.maps.items c.in_ok-map_of.field-0 c.loop-claims.invariant.over made.over);
      labels = subst (All (LabelsBelow 9)) (sym c.in_ok-push.ensures.items) (All-push (LabelsBelow 9) c.loop-claims.maps.items c.in_ok-map_of.field-0 c.loop-claims.invariant.labels made.labels);
    }
