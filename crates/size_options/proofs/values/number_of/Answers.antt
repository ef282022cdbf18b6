use Rattle.std.proofs.Common.{rules, ◌∙◌}
use Rattle.size_options.proofs.Numbers.{number_read}
use Rattle.size_options.proofs.values.number_of.Goals as goal

pub returns : goal.returns
returns c = c.ok.ensures.value ∙ number_read c.args.text.now c.parse.result c.parse.ensures.value.0 (search rules)
