use Rattle.run_outcome.proofs.line.tell_usage.Goals as goal

pub returns : goal.returns
returns g c = record { writes = rw (c.as_bytes.ensures.value, c.usage_text.ensures) at c.write_pieces.ensures.writes }
