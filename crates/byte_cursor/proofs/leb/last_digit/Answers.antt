use Rattle.std.proofs.Common.{arith}
use Rattle.byte_cursor.proofs.LebLemmas.{leb-none}
use Rattle.byte_cursor.proofs.leb.last_digit.Goals as goal

pub returns : goal.returns
returns c = leb-none c.args.bytes.now (λ k lt. c.loop-i.invariant k (omega arith))
