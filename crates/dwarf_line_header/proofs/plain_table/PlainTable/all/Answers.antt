-- The next entry is collected, or there is none.
use Rattle.std.proofs.Common.{sym, ◌∙◌, ◌-◌, ◌+◌, map, arith}
use Rattle.dwarf_line_header.specs.PlainTables.{plain_from, plain_table}
use Rattle.dwarf_line_header.specs.Tables.{items_of, shown}
use Rattle.dwarf_line_header.proofs.KeptLemmas.{one_more, plain_bad, plain_last, plain_out}
use Rattle.dwarf_line_header.proofs.PlainLemmas.{plain_more, good_more}
use Rattle.dwarf_line_header.proofs.plain_table.PlainTable.all.Goals as goal

pub loop-i-preserved : goal.loop-i-preserved
loop-i-preserved c =
    let n = c.left-i-end.result in
    let i = c.loop-i.i in
    let some = sym c.is_empty.ensures ∙ c.if-is_empty.false in
    let more = plain_more c.self.inside.kind n i c.loop-i.cursor c.entry.new.cursor (shown c.in-Ok.entry) c.loop-i-test.true c.in-Ok.ensures some in
    record {
      good = good_more c.self.inside.kind n i c.loop-i.cursor c.entry.new.cursor (shown c.in-Ok.entry) c.loop-i-test.true c.in-Ok.ensures some c.loop-i.invariant.good;
      gathered = one_more c.loop-i.all.items c.push.new.self.items c.in-Ok.entry (plain_from c.self.inside.kind (n - i) c.loop-i.cursor) (plain_from c.self.inside.kind (n - (i + 1)) c.entry.new.cursor) more c.loop-i.invariant.good c.in_ok-push.ensures.items
          ∙ c.loop-i.invariant.gathered;
    }

pub returns-in_default : goal.returns-in_default
returns-in_default c =
    plain_bad (map shown c.loop-i.all.items) (items_of (plain_table c.self.inside.kind c.self.inside.cursor)) c.self.inside.kind c.left-i-end.result c.loop-i.i c.loop-i.cursor c.in_default.field-0
    c.loop-i-test.true c.in_default.ensures c.loop-i.invariant.gathered ∙ c.self.view_is

pub returns-then-is_empty : goal.returns-then-is_empty
returns-then-is_empty c =
    plain_last (map shown c.loop-i.all.items) (items_of (plain_table c.self.inside.kind c.self.inside.cursor)) c.self.inside.kind c.left-i-end.result c.loop-i.i c.loop-i.cursor c.entry.new.cursor (shown c.in-Ok.entry)
    c.loop-i-test.true c.in-Ok.ensures (sym c.is_empty.ensures ∙ c.if-is_empty.true) c.loop-i.invariant.gathered ∙ c.self.view_is

pub returns : goal.returns
returns c =
    plain_out (map shown c.loop-i.all.items) (items_of (plain_table c.self.inside.kind c.self.inside.cursor)) c.self.inside.kind c.left-i-end.result c.loop-i.i c.loop-i.cursor
    (omega (arith, c.loop-i-test.false)) c.loop-i.invariant.gathered ∙ c.self.view_is
