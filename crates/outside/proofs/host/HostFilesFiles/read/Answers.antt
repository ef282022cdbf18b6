use Rattle.std.proofs.Common.{arith, ap}
use Rattle.outside.specs.Host.{taken_by}
use Rattle.outside.proofs.TurnLemmas.{Took-length}
use Rattle.outside.proofs.host.HostFilesFiles.read.Goals as goal

pub returns-in-Err-outcome-clause-more : goal.returns-in-Err-outcome-clause-more
returns-in-Err-outcome-clause-more g c = omega (arith, Took-length _ _ _ c.read_file-bytes.ensures.turns, ap taken_by c.self.view_is)

pub returns-in-Ok-outcome-clause-more : goal.returns-in-Ok-outcome-clause-more
returns-in-Ok-outcome-clause-more g c = omega (arith, Took-length _ _ _ c.read_file-bytes.ensures.turns, ap taken_by c.self.view_is)

pub returns-in-Ok-outcome-clause-too_long : goal.returns-in-Ok-outcome-clause-too_long
returns-in-Ok-outcome-clause-too_long g c _ = omega (arith, Took-length _ _ _ c.read_file-bytes.ensures.turns, ap taken_by c.self.view_is, c.if-len-limit.true, c.len.ensures, c.read_file-bytes.result.1.ok.0)

pub returns-in-Ok-2-clause-more : goal.returns-in-Ok-2-clause-more
returns-in-Ok-2-clause-more g c = omega (arith, Took-length _ _ _ c.read_file-bytes.ensures.turns, ap taken_by c.self.view_is)

pub returns-in-Ok-2-clause-taken : goal.returns-in-Ok-2-clause-taken
returns-in-Ok-2-clause-taken g c =
    let took = Took-length _ _ _ c.read_file-bytes.ensures.turns in
    record { least = omega (arith, took, ap taken_by c.self.view_is); most = omega (arith, took, ap taken_by c.self.view_is) }

pub returns-in-Err-outcome-clause-most : goal.returns-in-Err-outcome-clause-most
returns-in-Err-outcome-clause-most g c = omega (arith, Took-length _ _ _ c.read_file-bytes.ensures.turns, ap taken_by c.self.view_is, c.read_file-bytes.ensures.within, c.saturating_add-most.ensures)

pub returns-in-Ok-outcome-clause-most : goal.returns-in-Ok-outcome-clause-most
returns-in-Ok-outcome-clause-most g c = omega (arith, Took-length _ _ _ c.read_file-bytes.ensures.turns, ap taken_by c.self.view_is, c.read_file-bytes.ensures.within, c.saturating_add-most.ensures)

pub returns-in-Ok-2-clause-most : goal.returns-in-Ok-2-clause-most
returns-in-Ok-2-clause-most g c = omega (arith, Took-length _ _ _ c.read_file-bytes.ensures.turns, ap taken_by c.self.view_is, c.read_file-bytes.ensures.within, c.saturating_add-most.ensures)
