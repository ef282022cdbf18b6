use Rattle.std.proofs.Common.{◌≡◌, Ok, arith}
use Rattle.macho_file.specs.Checks.{opened}
use Rattle.macho_file.proofs.OpenedLemmas.{opened_is, means_opened}
use Rattle.macho_file.proofs.file.MachoFile.parse.Goals as goal

pub returns-clause-first : goal.returns-clause-first
returns-clause-first c =
    let whole : Ok c.args.file.now ≡ opened c.args.file.now = grind (arith, opened_is) in
    means_opened c.args.file.now (Ok c.args.file.now) whole
