use Rattle.std.proofs.Common.{rules, ◌∙◌}
use Rattle.size_options.proofs.Numbers.{decimal_read}
use Rattle.size_options.proofs.values.decimal_of.Goals as goal

pub returns : goal.returns
returns c = c.ok.ensures.value ∙ decimal_read c.args.text.now c.parse.result c.parse.ensures.value.0 (search rules)
