use Rattle.std.proofs.Common.{◌≡◌, ◌∙◌, sym, arith, length, map, Bor}
use Rattle.std.proofs.lemmas.List.{length-map}
use Rattle.path_rows.specs.declared.row.RollupRow.{RollupRow}
use Rattle.report_rows.specs.Groups.{table_at, labels_at, group_label, IsGroup, IsBorder}
use Rattle.report_rows.specs.Keys.{is_shown}
use Rattle.report_rows.proofs.GroupLemmas.{seen}
use Rattle.report_rows.proofs.GatherLemmas.{gather, group-run, none-left, All-kept}
use Rattle.report_rows.proofs.groups.groups_of.Goals as goal

pub loop-from-preserved : goal.loop-from-preserved
loop-from-preserved c =
    let all = seen c.args.rows.now in
    let g = c.make_group-group.result in
    let made = c.make_group-group.ensures in
    let long : length all ≡ length c.args.rows.now = length-map c.args.rows.now (λ (r : Bor RollupRow). r.now) in
    let first : IsBorder (labels_at c.args.level all) g.from = rw made.first c.loop-from.invariant.border in
    let run = group-run c.args.levels.options c.args.levels.depth c.args.level all c.loop-from.groups.items g c.requires.part c.requires.below made.group first made.border (rw made.first made.same) in
    record {
      labels = rw c.in_ok-keep.ensures (gather c.args.levels.options c.args.levels.depth c.args.level all c.loop-from.groups.items g made.group run (rw made.first c.loop-from.invariant.labels));
      groups = rw c.in_ok-keep.ensures (All-kept (IsGroup c.args.levels.options c.args.level all) c.loop-from.groups.items g (is_shown c.args.levels.options g.vm g.file) c.loop-from.invariant.groups made.group);
      border = made.border;
      within = omega (arith, long, made.group.within);
    }

pub returns-clause-labels : goal.returns-clause-labels
returns-clause-labels c =
    let all = seen c.args.rows.now in
    let long : length all ≡ length c.args.rows.now = length-map c.args.rows.now (λ (r : Bor RollupRow). r.now) in
    sym (none-left c.args.levels.options c.args.level all (table_at c.args.level all) c.loop-from.from (map (group_label c.args.level all) c.loop-from.groups.items) (omega (arith, long))) ∙ c.loop-from.invariant.labels
