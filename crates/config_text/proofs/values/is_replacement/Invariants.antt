use Rattle.std.proofs.Common.{◌≡◌, length}
use Rattle.config_text.specs.Grammar.{is_replacement}
use Rattle.config_text.proofs.values.is_replacement.Given as goal

abbrev pub invariant-bytes : goal.invariant-bytes
invariant-bytes l = is_replacement l.bytes ≡ is_replacement l.left

abbrev pub decreases-bytes : goal.decreases-bytes
decreases-bytes l = length l.left
