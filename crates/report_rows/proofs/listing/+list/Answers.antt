use Rattle.std.proofs.Common.{List, ◌<◌, ◌+◌, ◌-◌, ◌++◌, ◌∙◌, sym, ap, arith, length, map, take, drop, get_or}
use Rattle.std.specs.List.{flat_map}
use Rattle.std.proofs.lemmas.List.{take_all}
use Rattle.path_rows.specs.declared.row.RollupRow.{RollupRow}
use Rattle.report_rows.specs.Groups.{table_at, group_entry, IsPart}
use Rattle.report_rows.specs.Rows.{Entry, entries_of, listing, row_of}
use Rattle.report_rows.proofs.GroupLemmas.{any_group, seen, seen-mid, deep_rows}
use Rattle.report_rows.proofs.LevelLemmas.{block, block-more, rows-more, rows-none}
use Rattle.report_rows.proofs.ListLemmas.{part-of}
use Rattle.report_rows.proofs.listing.+list.Goals as goal

pub returns-then-level-levels : goal.returns-then-level-levels
returns-then-level-levels t c =
    rows-none (entries_of c.args.levels.options) (λ (e : Entry). e.below) row_of c.args.levels.depth c.args.level (table_at c.args.level (seen c.args.rows.now)) c.args.out.now (omega arith)

pub make_row-requires-clause-deep : goal.make_row-requires-clause-deep
make_row-requires-clause-deep t c = deep_rows c.args.levels.depth c.args.level c.args.rows.now c.requires.part (omega arith)

pub list-requires : goal.list-requires
list-requires t c =
    let items = c.in_ok-groups.groups.items in
    let lt : c.loop-group.group-index < length items = rw (← c.deref-group-items.ensures.value) c.loop-group-test.true in
    let part : IsPart c.args.levels.depth (c.args.level + 1) (seen (take ((get_or items c.loop-group.group-index any_group).to - (get_or items c.loop-group.group-index any_group).from) (drop (get_or items c.loop-group.group-index any_group).from c.args.rows.now))) =
    part-of c.args.levels.depth c.args.level c.args.rows.now (get_or items c.loop-group.group-index any_group) c.requires.part (c.in_ok-groups.ensures.ranges c.loop-group.group-index any_group lt) in
    (omega arith, (rw c.deref-group-items.ensures.value part, omega arith))

pub loop-group-preserved : goal.loop-group-preserved
loop-group-preserved t c =
    let g = get_or c.deref-group-items.result.now c.loop-group.group-index any_group in
    let o = c.args.levels.options in
    let below = λ (t : List RollupRow). listing o (c.args.levels.depth - (c.args.level + 1)) (c.args.level + 1) (table_at (c.args.level + 1) t) in
    block-more (entries_of o) (λ (e : Entry). e.below) row_of c.args.levels.depth c.args.level (group_entry c.args.level (seen c.args.rows.now)) c.deref-group-items.result.now c.loop-group.group-index any_group c.args.out.now c.loop-group.out c.push.new.self c.list.new.out c.in_ok-make_row.field-0
    c.loop-group-test.true c.loop-group.invariant c.in_ok-make_row.ensures c.in_ok-push.ensures.ok (c.in_ok-list.ensures ∙ ap (λ t. c.push.new.self ++ below t) (seen-mid c.args.rows.now g.from (g.to - g.from)))

pub returns : goal.returns
returns t c =
    let o = c.args.levels.options in
    let items = c.in_ok-groups.groups.items in
    let table = table_at c.args.level (seen c.args.rows.now) in
    let ge = group_entry c.args.level (seen c.args.rows.now) in
    let f = block (entries_of o) (λ (e : Entry). e.below) row_of c.args.levels.depth c.args.level in
    c.loop-group.invariant
    ∙ ap (λ rows. c.args.out.now ++ rows)
    (ap (λ gs. flat_map f (map ge gs)) (take_all c.loop-group.group-index c.deref-group-items.result.now (omega arith) ∙ c.deref-group-items.ensures.value)
    ∙ (ap (flat_map f) c.in_ok-groups.ensures.entries ∙ sym (rows-more (entries_of o) (λ (e : Entry). e.below) row_of c.args.levels.depth c.args.level table (omega arith))))
