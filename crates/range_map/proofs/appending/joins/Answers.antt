use Rattle.std.proofs.Common.{sym, arith}
use Rattle.std.proofs.lemmas.Bool.Decides.{nat_tests}
use Rattle.range_map.proofs.Pieces.{EndsBy-last, joins_last-last}
use Rattle.range_map.proofs.appending.joins.Goals as goal

pub overflow_add-last : goal.overflow_add-last
overflow_add-last c =
    omega (arith, EndsBy-last c.args.out.now c.in-Some.last.now c.args.piece.now.start (sym c.in-Some.ensures.value) c.requires)

pub returns-then-last-piece : goal.returns-then-last-piece
returns-then-last-piece c =
    rw (joins_last-last c.args.out.now c.in-Some.last.now c.args.piece.now (sym c.in-Some.ensures.value)) (grind (arith, nat_tests))

pub returns-else-last-piece : goal.returns-else-last-piece
returns-else-last-piece c =
    rw (joins_last-last c.args.out.now c.in-Some.last.now c.args.piece.now (sym c.in-Some.ensures.value)) (grind (arith, nat_tests))
