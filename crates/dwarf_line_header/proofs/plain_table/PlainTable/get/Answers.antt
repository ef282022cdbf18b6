use Rattle.std.proofs.Common.{List, ap, sym, ◌∙◌, ◌-◌, ◌+◌, arith, slice_get}
use Rattle.dwarf_line_header.specs.PlainTables.{plain_from}
use Rattle.dwarf_line_header.specs.Tables.{Entry, shown}
use Rattle.dwarf_line_header.proofs.PlainLemmas.{plain_more, good_more}
use Rattle.dwarf_line_header.proofs.TableLemmas.{walk_here, walk_on}
use Rattle.dwarf_line_header.proofs.plain_table.PlainTable.get.Goals as goal

pub returns-then-i-k : goal.returns-then-i-k
returns-then-i-k c =
    let n = c.left-i-end.result in
    let i = c.loop-i.i in
    let more = plain_more c.self.inside.kind n i c.loop-i.cursor c.entry.new.cursor (shown c.in-Ok.entry) c.loop-i-test.true c.in-Ok.ensures (sym c.is_empty.ensures ∙ c.if-is_empty.false) in
    sym (ap (λ (xs : List Entry). slice_get xs c.args.k) (sym c.self.view_is) ∙ c.loop-i.invariant.same ∙ walk_here c.args.k i (shown c.in-Ok.entry) (plain_from c.self.inside.kind (n - i) c.loop-i.cursor) (plain_from c.self.inside.kind (n - (i + 1)) c.entry.new.cursor) more c.loop-i.invariant.good c.if-i-k.true)

pub loop-i-preserved : goal.loop-i-preserved
loop-i-preserved c =
    let n = c.left-i-end.result in
    let i = c.loop-i.i in
    let some = sym c.is_empty.ensures ∙ c.if-is_empty.false in
    let more = plain_more c.self.inside.kind n i c.loop-i.cursor c.entry.new.cursor (shown c.in-Ok.entry) c.loop-i-test.true c.in-Ok.ensures some in
    record {
      good = good_more c.self.inside.kind n i c.loop-i.cursor c.entry.new.cursor (shown c.in-Ok.entry) c.loop-i-test.true c.in-Ok.ensures some c.loop-i.invariant.good;
      low = omega arith;
      same = c.loop-i.invariant.same ∙ walk_on c.args.k i (shown c.in-Ok.entry) (plain_from c.self.inside.kind (n - i) c.loop-i.cursor) (plain_from c.self.inside.kind (n - (i + 1)) c.entry.new.cursor) more (omega (arith, c.loop-i.invariant.low, c.if-i-k.false));
    }
