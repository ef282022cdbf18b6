use Rattle.std.proofs.Common.{append_assoc}
use Rattle.run_outcome.proofs.line.tell_pattern.Goals as goal

pub returns : goal.returns
returns g c = record { writes = rw (append_assoc, append_assoc) (rw (c.as_bytes-number.ensures.value, c.format.ensures.text) at c.write_pieces.ensures.writes) }
