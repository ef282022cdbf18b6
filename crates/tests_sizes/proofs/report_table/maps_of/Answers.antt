use Rattle.std.proofs.Common.{All, sym, subst, arith}
use Rattle.std.proofs.lemmas.List.Elements.{All-push}
use Rattle.dual_map.specs.Layout.{IsOver, LabelsBelow}
use Rattle.tests_sizes.proofs.report_table.maps_of.Goals as goal

pub loop-level-preserved : goal.loop-level-preserved
loop-level-preserved g c =
    let made = c.in_ok-map_of.ensures in
    record {
      count = omega (arith, c.in_ok-push.ensures.len, c.push.new.self.ok.0, c.loop-level.maps.ok.0, c.loop-level.invariant.count);
      over = subst (All (IsOver c.args.base.now)) (sym c.in_ok-push.ensures.items) (All-push (IsOver c.args.base.now) c.loop-level.maps.items c.in_ok-map_of.field-0 c.loop-level.invariant.over made.over);
      labels = subst (All (LabelsBelow 11)) (sym c.in_ok-push.ensures.items) (All-push (LabelsBelow 11) c.loop-level.maps.items c.in_ok-map_of.field-0 c.loop-level.invariant.labels made.labels);
    }
