use Rattle.std.proofs.Common.{arith}
use Rattle.path_rows.proofs.Words.{less_after}
use Rattle.path_rows.proofs.prefix.word_of_label.Goals as goal

pub returns-clause-less : goal.returns-clause-less
returns-clause-less c = λ other lt. less_after 8 0 c.args.label.now other (omega (arith, lt, c.word_after.ensures))
