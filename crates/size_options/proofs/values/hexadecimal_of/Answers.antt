use Rattle.std.proofs.Common.{rules, ◌∙◌}
use Rattle.size_options.proofs.Numbers.{hexadecimal_read}
use Rattle.size_options.proofs.values.hexadecimal_of.Goals as goal

pub returns : goal.returns
returns c = c.ok.ensures.value ∙ hexadecimal_read c.args.text.now c.from_str_radix.result c.from_str_radix.ensures.value (search rules)
