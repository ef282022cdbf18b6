-- The next entry is collected, or there is none.
use Rattle.std.proofs.Common.{◌∙◌, ◌-◌, ◌+◌, map, arith}
use Rattle.dwarf_line_header.specs.FormattedTables.{formatted_entry}
use Rattle.dwarf_line_header.specs.Tables.{items_of, many_from, shown}
use Rattle.dwarf_line_header.proofs.KeptLemmas.{many_bad_front, many_end_front, one_more}
use Rattle.dwarf_line_header.proofs.TableLemmas.{many_good, many_more}
use Rattle.dwarf_line_header.proofs.formatted_table.FormattedTable.all.Goals as goal

pub loop-i-preserved : goal.loop-i-preserved
loop-i-preserved c =
    let read = formatted_entry c.self.inside.format in
    let n = c.self.inside.count in
    let i = c.loop-i.i in
    let more = many_more read n i c.loop-i.cursor c.entry.new.cursor (shown c.in-Ok.entry) c.loop-i-test.true c.in-Ok.ensures in
    record {
      good = many_good read n i c.loop-i.cursor c.entry.new.cursor (shown c.in-Ok.entry) c.loop-i-test.true c.in-Ok.ensures c.loop-i.invariant.good;
      gathered = one_more c.loop-i.all.items c.push.new.self.items c.in-Ok.entry (many_from read (n - i) c.loop-i.cursor) (many_from read (n - (i + 1)) c.entry.new.cursor) more c.loop-i.invariant.good c.in_ok-push.ensures.items
          ∙ c.loop-i.invariant.gathered;
    }

pub returns-in_default : goal.returns-in_default
returns-in_default c =
    let read = formatted_entry c.self.inside.format in
    many_bad_front (map shown c.loop-i.all.items) (items_of (many_from read c.self.inside.count c.self.inside.entries)) read c.self.inside.count c.loop-i.i c.loop-i.cursor c.in_default.field-0
    c.loop-i-test.true c.in_default.ensures c.loop-i.invariant.gathered ∙ c.self.view_is

pub returns : goal.returns
returns c =
    let read = formatted_entry c.self.inside.format in
    many_end_front (map shown c.loop-i.all.items) (items_of (many_from read c.self.inside.count c.self.inside.entries)) read c.self.inside.count c.loop-i.i c.loop-i.cursor
    (omega (arith, c.loop-i-test.false)) c.loop-i.invariant.gathered ∙ c.self.view_is
