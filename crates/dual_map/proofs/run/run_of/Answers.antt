use Rattle.std.proofs.Common.{arith}
use Rattle.dual_map.proofs.RunLemmas.{start_from_get, ahead_get, steady_none, steady_get}
use Rattle.dual_map.proofs.run.run_of.Goals as goal

pub returns-then-at-len : goal.returns-then-at-len
returns-then-at-len c =
    steady_none c.args.none c.args.map.now c.args.at c.args.x _ c.len.ensures.tidy c.requires.at.past (omega arith) (λ l. absurd (omega (arith, c.if-at-len.true, c.len.ensures.count)))

pub returns-then-x-piece : goal.returns-then-x-piece
returns-then-x-piece c =
    steady_none c.args.none c.args.map.now c.args.at c.args.x _ c.len.ensures.tidy c.requires.at.past (omega (arith, c.if-x-piece.true)) (λ l. omega (arith, c.if-x-piece.true, start_from_get c.args.map.now c.args.at c.piece_of-piece.result c.piece_of-piece.ensures.value))

pub overflow_sub-result-2 : goal.overflow_sub-result-2
overflow_sub-result-2 c =
    omega (arith, ahead_get c.args.map.now c.args.at c.args.x c.piece_of-piece.result c.requires.at c.piece_of-piece.ensures.value)

pub returns : goal.returns
returns c =
    steady_get c.args.none c.args.map.now c.args.at c.args.x c.piece_of-piece.result c.len.ensures.tidy c.requires.at c.piece_of-piece.ensures.value c.if-x-piece.false
