use Rattle.std.proofs.Common.{rules, refl, codes}
use Rattle.std.proofs.lemmas.Result.{IfOk-weaker}
use Rattle.size_options.specs.Command.{word_option}
use Rattle.size_options.proofs.CommandLemmas.{arg_added}
use Rattle.size_options.proofs.command.with_debug_options.Goals as goal

pub returns : goal.returns
returns c = IfOk-weaker c.arg-3.result _ _ (λ r h. arg_added c.long-3.result (word_option (codes "debug-vmaddr")) h.shape (search rules) (search rules)
    (arg_added c.long-2.result (word_option (codes "debug-fileoff")) c.in_ok-arg-2.ensures.shape (search rules) (search rules)
    (arg_added c.long.result (word_option (codes "debug-file")) c.in_ok-arg.ensures.shape (search rules) (search rules)
    refl))) c.arg-3.ensures
