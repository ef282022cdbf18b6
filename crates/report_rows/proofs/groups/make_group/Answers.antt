use Rattle.std.proofs.Common.{◌<◌, ◌+◌, ◌-◌, ◌∙◌, ap, sym, subst, arith, length, Bor}
use Rattle.std.specs.Prelude.{All}
use Rattle.std.proofs.lemmas.List.{take_rest}
use Rattle.std.proofs.lemmas.List.Elements.{All-drop}
use Rattle.path_rows.specs.declared.row.RollupRow.{RollupRow}
use Rattle.report_rows.specs.Tables.{vm_sum, file_sum}
use Rattle.report_rows.proofs.GroupLemmas.{seen, seen-mid, part-le, found, run-group, deep_rows}
use Rattle.report_rows.proofs.groups.make_group.Goals as goal

pub run_len-requires-clause-deep : goal.run_len-requires-clause-deep
run_len-requires-clause-deep c =
    let D : Bor RollupRow → Type 0 = λ r. c.args.level < length r.now.path in
    let deep : All D c.args.rows.now = deep_rows c.args.levels.depth c.args.level c.args.rows.now c.requires.part.part c.requires.part.below in
    subst (All D) (sym (take_rest c.args.rows.now c.args.from)) (All-drop D c.args.from c.args.rows.now deep)

pub sums-vm-requires-clause-vm_fits : goal.sums-vm-requires-clause-vm_fits
sums-vm-requires-clause-vm_fits c =
    let n = c.args.from + c.run_len.result - c.args.from in
    omega (arith, ap vm_sum (seen-mid c.args.rows.now c.args.from n), part-le (λ (r : RollupRow). r.vm) (seen c.args.rows.now) c.args.from n, c.requires.part.part.vm_fits)

pub sums-vm-requires-clause-file_fits : goal.sums-vm-requires-clause-file_fits
sums-vm-requires-clause-file_fits c =
    let n = c.args.from + c.run_len.result - c.args.from in
    omega (arith, ap file_sum (seen-mid c.args.rows.now c.args.from n), part-le (λ (r : RollupRow). r.file) (seen c.args.rows.now) c.args.from n, c.requires.part.part.file_fits)

pub returns-clause-group : goal.returns-clause-group
returns-clause-group c =
    let n = c.args.from + c.run_len.result - c.args.from in
    let ran = c.run_len.ensures in
    let all = found c.args.levels.depth c.args.level c.args.rows.now c.args.from c.run_len.result c.requires.part.part c.requires.part.below c.requires.border ran.some ran.within ran.same ran.next in
    run-group c.args.levels.options c.args.level (seen c.args.rows.now) c.args.from (c.args.from + c.run_len.result) c.key.result c.sums-vm.result.0 c.sums-vm.result.1 all.run
    c.key.ensures (c.sums-vm.ensures.vm ∙ ap vm_sum (seen-mid c.args.rows.now c.args.from n)) (c.sums-vm.ensures.file ∙ ap file_sum (seen-mid c.args.rows.now c.args.from n))

pub returns-clause-border : goal.returns-clause-border
returns-clause-border c =
    let ran = c.run_len.ensures in
    (found c.args.levels.depth c.args.level c.args.rows.now c.args.from c.run_len.result c.requires.part.part c.requires.part.below c.requires.border ran.some ran.within ran.same ran.next).border

pub returns-clause-same : goal.returns-clause-same
returns-clause-same c =
    let ran = c.run_len.ensures in
    (found c.args.levels.depth c.args.level c.args.rows.now c.args.from c.run_len.result c.requires.part.part c.requires.part.below c.requires.border ran.some ran.within ran.same ran.next).same
