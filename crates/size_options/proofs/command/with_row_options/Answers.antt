use Rattle.std.proofs.Common.{rules, refl, codes}
use Rattle.std.proofs.lemmas.Result.{IfOk-weaker}
use Rattle.size_options.specs.Command.{letter_option, word_option}
use Rattle.size_options.proofs.CommandLemmas.{arg_added}
use Rattle.size_options.proofs.command.with_row_options.Goals as goal

pub returns : goal.returns
returns c = IfOk-weaker c.arg-4.result _ _ (λ r h. arg_added c.long.result (word_option (codes "domain")) h.shape (search rules) (search rules)
    (arg_added c.short-3.result (letter_option 115 (codes "sort")) c.in_ok-arg-3.ensures.shape (search rules) (search rules)
    (arg_added c.short-2.result (letter_option 110 (codes "limit")) c.in_ok-arg-2.ensures.shape (search rules) (search rules)
    (arg_added c.short.result (letter_option 100 (codes "sources")) c.in_ok-arg.ensures.shape (search rules) (search rules)
    refl)))) c.arg-4.ensures
