use Rattle.std.proofs.Common.{List, ap, sym, ◌∙◌, ◌-◌, ◌+◌, arith, slice_get}
use Rattle.dwarf_line_header.specs.FormattedTables.{formatted_entry}
use Rattle.dwarf_line_header.specs.Tables.{Entry, many_from, shown}
use Rattle.dwarf_line_header.proofs.TableLemmas.{many_good, many_more, walk_here, walk_on}
use Rattle.dwarf_line_header.proofs.formatted_table.FormattedTable.get.Goals as goal

pub returns-then-i-k : goal.returns-then-i-k
returns-then-i-k c =
    let read = formatted_entry c.self.inside.format in
    let n = c.self.inside.count in
    let i = c.loop-i.i in
    let more = many_more read n i c.loop-i.cursor c.entry.new.cursor (shown c.in-Ok.entry) c.loop-i-test.true c.in-Ok.ensures in
    sym (ap (λ (xs : List Entry). slice_get xs c.args.k) (sym c.self.view_is) ∙ c.loop-i.invariant.same ∙ walk_here c.args.k i (shown c.in-Ok.entry) (many_from read (n - i) c.loop-i.cursor) (many_from read (n - (i + 1)) c.entry.new.cursor) more c.loop-i.invariant.good c.if-i-k.true)

pub loop-i-preserved : goal.loop-i-preserved
loop-i-preserved c =
    let read = formatted_entry c.self.inside.format in
    let n = c.self.inside.count in
    let i = c.loop-i.i in
    let more = many_more read n i c.loop-i.cursor c.entry.new.cursor (shown c.in-Ok.entry) c.loop-i-test.true c.in-Ok.ensures in
    record {
      good = many_good read n i c.loop-i.cursor c.entry.new.cursor (shown c.in-Ok.entry) c.loop-i-test.true c.in-Ok.ensures c.loop-i.invariant.good;
      low = omega arith;
      same = c.loop-i.invariant.same ∙ walk_on c.args.k i (shown c.in-Ok.entry) (many_from read (n - i) c.loop-i.cursor) (many_from read (n - (i + 1)) c.entry.new.cursor) more (omega (arith, c.loop-i.invariant.low, c.if-i-k.false));
    }
