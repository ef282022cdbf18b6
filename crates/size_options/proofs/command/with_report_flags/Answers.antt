use Rattle.std.proofs.Common.{rules, refl, codes}
use Rattle.std.proofs.lemmas.Result.{IfOk-weaker}
use Rattle.size_options.specs.Command.{letter_flag, word_flag}
use Rattle.size_options.proofs.CommandLemmas.{arg_added}
use Rattle.size_options.proofs.command.with_report_flags.Goals as goal

pub returns : goal.returns
returns c = IfOk-weaker c.arg-3.result _ _ (λ r h. arg_added c.action-3.result (word_flag (codes "tsv")) h.shape (search rules) (search rules)
    (arg_added c.action-2.result (word_flag (codes "csv")) c.in_ok-arg-2.ensures.shape (search rules) (search rules)
    (arg_added c.action.result (letter_flag 119 (codes "wide")) c.in_ok-arg.ensures.shape (search rules) (search rules)
    refl))) c.arg-3.ensures
