use Rattle.std.proofs.Common.{◌≡◌, map, take}
use Rattle.rollup.specs.Order.{keyed_row}
use Rattle.rollup.proofs.fresh.rows_of.Given as goal

abbrev pub invariant-loop-entry : goal.invariant-loop-entry
invariant-loop-entry g l = l.rows.items ≡ map (keyed_row l.file.pool.now l.file.sizes.now) (take l.entry-index l.keyed)
