use Rattle.std.proofs.Common.{◌≡◌, ◌++◌, ◌∷◌, [], reverse, arith}
use Rattle.path_rows.specs.Rows.{with_rows}
use Rattle.path_rows.proofs.Merging.{first_ends, first_fits, next_climbs, next_ends, next_fits, next_same, next_strict}
use Rattle.path_rows.proofs.merge.insert_all.Goals as goal

pub insert-requires-clause-ends : goal.insert-requires-clause-ends
insert-requires-clause-ends c = first_ends c.loop-row.new.items c.pop.new.self.items c.loop-row.rows.items c.in-Some.row c.in-Some.ensures.items c.loop-row.invariant.ends

pub insert-requires-clause-fits : goal.insert-requires-clause-fits
insert-requires-clause-fits c = first_fits c.loop-row.new.items c.pop.new.self.items (c.loop-row.rows.items ++ reverse c.loop-row.above.items) c.in-Some.row c.in-Some.ensures.items c.loop-row.invariant.fits

pub loop-row-preserved : goal.loop-row-preserved
loop-row-preserved c =
    let new = c.loop-row.new.items in
    let rest = c.pop.new.self.items in
    let is : new ≡ rest ++ c.in-Some.row ∷ [] = c.in-Some.ensures.items in
    let before = c.loop-row.rows.items ++ reverse c.loop-row.above.items in
    let after = c.insert.new.rows.items ++ reverse c.insert.new.above.items in
    record {
      spare = omega (arith, c.in-Some.ensures.cases, c.insert.ensures.spare, c.insert.ensures.capacity, c.loop-row.invariant.spare);
      ordered = next_strict before after c.in-Some.row c.insert.ensures.rows c.loop-row.invariant.ordered;
      climbs = next_climbs new rest c.in-Some.row is c.loop-row.invariant.climbs;
      ends = next_ends new rest c.insert.new.rows.items c.in-Some.row is c.loop-row.invariant.climbs c.insert.ensures.ends;
      fits = next_fits new rest before after c.in-Some.row is c.insert.ensures.rows c.loop-row.invariant.fits;
      same = next_same new rest before after (with_rows (c.args.rows.now.items ++ reverse c.args.above.items) (reverse c.args.new.items)) c.in-Some.row is c.insert.ensures.rows c.loop-row.invariant.same;
    }
