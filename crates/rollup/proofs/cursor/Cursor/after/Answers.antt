use Rattle.std.proofs.Common.{sym, subst, arith}
use Rattle.rollup.specs.Walk.{IsAt}
use Rattle.rollup.proofs.Cursors.{next_at}
use Rattle.rollup.proofs.cursor.Cursor.after.Goals as goal

pub returns-clause-at : goal.returns-clause-at
returns-clause-at g c = subst (IsAt c.args.map.now c.args.to) (sym c.read.ensures.value) (next_at c.args.map.now c.args.to c.args.self c.requires.reached (omega arith) c.requires.fits)
