use Rattle.std.proofs.Common.{◌≡◌, length, arith, Bor}
use Rattle.std.proofs.lemmas.List.{length-map}
use Rattle.std.proofs.lemmas.Result.{IfOk-weaker}
use Rattle.path_rows.specs.declared.row.RollupRow.{RollupRow}
use Rattle.report_rows.specs.Groups.{labels_at, IsBorder}
use Rattle.report_rows.proofs.GatherLemmas.{group-run}
use Rattle.report_rows.proofs.GroupLemmas.{seen}
use Rattle.report_rows.proofs.LeadingLemmas.{can-add, made-entries, made-ranges, reads-more, reads-none}
use Rattle.report_rows.proofs.leading.top_entries.Goals as goal

pub loop-from-init : goal.loop-from-init
loop-from-init c =
    let all = seen c.args.rows.now in
    let o = c.args.levels.options in
    record {
      read = reads-none o c.args.level all c.new-leading.result.kept.items c.new-leading.result.left_out (c.new-leading.ensures o.limit);
      border = λ i j lt low high. absurd (omega arith);
      within = omega arith;
    }

pub add-requires-clause-fits : goal.add-requires-clause-fits
add-requires-clause-fits c = λ shown.
    let all = seen c.args.rows.now in
    let o = c.args.levels.options in
    let s = c.loop-from.leading in
    let g = c.make_group-group.result in
    let made = c.make_group-group.ensures in
    let long : length all ≡ length c.args.rows.now = length-map c.args.rows.now (λ (r : Bor RollupRow). r.now) in
    let first : IsBorder (labels_at c.args.level all) g.from = rw made.first c.loop-from.invariant.border in
    let run = group-run o c.args.levels.depth c.args.level all c.loop-from.invariant.read.groups g c.requires.part.part c.requires.part.below made.group first made.border (rw made.first made.same) in
    can-add o c.args.levels.depth c.args.level all c.requires.part.part c.requires.part.below c.loop-from.from s.kept.items s.left_out c.loop-from.invariant.read g made.group run made.first (omega (arith, long)) shown

pub loop-from-preserved : goal.loop-from-preserved
loop-from-preserved c =
    let all = seen c.args.rows.now in
    let o = c.args.levels.options in
    let s = c.loop-from.leading in
    let read = c.loop-from.invariant.read in
    let g = c.make_group-group.result in
    let made = c.make_group-group.ensures in
    let long : length all ≡ length c.args.rows.now = length-map c.args.rows.now (λ (r : Bor RollupRow). r.now) in
    let first : IsBorder (labels_at c.args.level all) g.from = rw made.first c.loop-from.invariant.border in
    let run = group-run o c.args.levels.depth c.args.level all read.groups g c.requires.part.part c.requires.part.below made.group first made.border (rw made.first made.same) in
    record {
      read = reads-more o c.args.levels.depth c.args.level all c.requires.part.part c.requires.part.below c.loop-from.from s.kept.items s.left_out read g made.group run made.first c.add.new.self.kept.items c.add.new.self.left_out (c.in_ok-add.ensures read.groups read.leads);
      border = made.border;
      within = omega (arith, long, made.group.within);
    }

pub returns-clause-entries : goal.returns-clause-entries
returns-clause-entries c =
    let all = seen c.args.rows.now in
    let s = c.loop-from.leading in
    let long : length all ≡ length c.args.rows.now = length-map c.args.rows.now (λ (r : Bor RollupRow). r.now) in
    IfOk-weaker c.finish.result _ _
    (λ v w. made-entries c.args.levels.options c.args.levels.depth c.args.level all c.requires.part.part c.requires.part.below c.loop-from.from s.kept.items s.left_out c.loop-from.invariant.read (omega (arith, long)) c.requires.some v.items w) c.finish.ensures

pub returns-clause-ranges : goal.returns-clause-ranges
returns-clause-ranges c =
    let all = seen c.args.rows.now in
    let s = c.loop-from.leading in
    let long : length all ≡ length c.args.rows.now = length-map c.args.rows.now (λ (r : Bor RollupRow). r.now) in
    IfOk-weaker c.finish.result _ _
    (λ v w. made-ranges c.args.levels.options c.args.levels.depth c.args.level all c.requires.part.part c.requires.part.below c.loop-from.from s.kept.items s.left_out c.loop-from.invariant.read (omega (arith, long)) c.requires.some v.items w) c.finish.ensures
