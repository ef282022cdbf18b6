use Rattle.std.proofs.Common.{ap, take, Some}
use Rattle.outside.proofs.GivenLemmas.{concat-push}
use Rattle.outside.proofs.host.HostSinkSink.write.Goals as goal

pub returns-in-Ok-flush-clause-bytes : goal.returns-in-Ok-flush-clause-bytes
returns-in-Ok-flush-clause-bytes g c =
    rw (← c.self.view_is, c.add.ensures) (ap Some (concat-push c.self.inside.pieces.items (take c.in-Ok.count c.args.piece.now)))
