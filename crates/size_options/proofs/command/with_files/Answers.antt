use Rattle.std.proofs.Common.{rules, refl, codes}
use Rattle.std.proofs.lemmas.Result.{IfOk-weaker}
use Rattle.size_options.specs.Command.{file_words, word_option}
use Rattle.size_options.proofs.CommandLemmas.{arg_added}
use Rattle.size_options.proofs.command.with_files.Goals as goal

pub returns : goal.returns
returns c = IfOk-weaker c.arg-2.result _ _ (λ r h. arg_added c.action.result file_words h.shape (search rules) (search rules)
    (arg_added c.long.result (word_option (codes "synth")) c.in_ok-arg.ensures.shape (search rules) (search rules)
    refl)) c.arg-2.ensures
