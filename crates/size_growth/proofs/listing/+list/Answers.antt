use Rattle.std.proofs.Common.{◌-◌, ◌++◌, ◌∙◌, sym, ap, arith, map, take, drop, get_or}
use Rattle.std.specs.List.{flat_map}
use Rattle.std.proofs.lemmas.List.{take_all}
use Rattle.size_growth.specs.declared.groups.Group.{Group}
use Rattle.report_rows.specs.declared.groups.Kind.TheVariants.{Label}
use Rattle.size_growth.specs.Groups.{IsPart, group_entry}
use Rattle.size_growth.specs.Runs.{table_at}
use Rattle.size_growth.specs.Sizes.{no_sizes}
use Rattle.size_growth.specs.Rows.{Entry, entries_of, row_of}
use Rattle.report_rows.proofs.LevelLemmas.{block, block-more, rows-more, rows-none}
use Rattle.size_growth.proofs.ListLemmas.{deep-at, part-of}
use Rattle.size_growth.proofs.listing.+list.Goals as goal

-- The default group, for an index past the end.
abbrev any : Group
any = record { key = record { 0 = 0 }; from = 0; to = 0; kind = Label; sizes = no_sizes }

pub returns-then-level-levels : goal.returns-then-level-levels
returns-then-level-levels t c =
    rows-none (entries_of c.args.levels.options) (λ (e : Entry). e.below) row_of c.args.levels.depth c.args.level (table_at c.args.level c.args.paths.now) c.args.out.now (omega arith)

pub make_row-requires-clause-deep : goal.make_row-requires-clause-deep
make_row-requires-clause-deep t c = deep-at c.args.levels.depth c.args.level c.args.paths.now c.requires.part (omega arith)

pub list-requires : goal.list-requires
list-requires t c =
    let g = get_or c.in_ok-groups.groups.items c.loop-group.group-index any in
    let part : IsPart c.args.levels.depth (take (g.to - g.from) (drop g.from c.args.paths.now)) = part-of c.args.levels.depth c.args.paths.now g.from (g.to - g.from) c.requires.part in
    (omega arith, (rw c.deref-group-items.ensures.value part, omega arith))

pub loop-group-preserved : goal.loop-group-preserved
loop-group-preserved t c =
    block-more (entries_of c.args.levels.options) (λ (e : Entry). e.below) row_of c.args.levels.depth c.args.level (group_entry c.args.level c.args.paths.now) c.deref-group-items.result.now c.loop-group.group-index any c.args.out.now c.loop-group.out c.push.new.self c.list.new.out c.in_ok-make_row.field-0
    c.loop-group-test.true c.loop-group.invariant c.in_ok-make_row.ensures c.in_ok-push.ensures.ok c.in_ok-list.ensures

pub returns : goal.returns
returns t c =
    let o = c.args.levels.options in
    let table = table_at c.args.level c.args.paths.now in
    let ge = group_entry c.args.level c.args.paths.now in
    let f = block (entries_of o) (λ (e : Entry). e.below) row_of c.args.levels.depth c.args.level in
    c.loop-group.invariant
    ∙ ap (λ rows. c.args.out.now ++ rows)
    (ap (λ gs. flat_map f (map ge gs)) (take_all c.loop-group.group-index c.deref-group-items.result.now (omega arith) ∙ c.deref-group-items.ensures.value)
    ∙ (ap (flat_map f) c.in_ok-groups.ensures.entries ∙ sym (rows-more (entries_of o) (λ (e : Entry). e.below) row_of c.args.levels.depth c.args.level table (omega arith))))
