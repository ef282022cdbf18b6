use Rattle.std.proofs.Common.{◌≡◌}
use Rattle.macho_file.specs.Commands.{commands}
use Rattle.debug_pair.specs.Identities.{first_uuid}
use Rattle.debug_pair.proofs.macho.first_uuid.Given as goal

abbrev pub invariant-loop-command : goal.invariant-loop-command
invariant-loop-command l = first_uuid l.command-iterator ≡ first_uuid (commands l.file)
