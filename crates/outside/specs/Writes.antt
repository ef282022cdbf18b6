-- What writing bytes to a sink did. The sink is seen before and after it.
use Rattle.std.specs.Prelude.{◌≡◌, ℕ, ◌≤◌, List, Result, OnOk, OnErr}
use Rattle.outside.specs.declared.sink.Sink.{Ghosts as SinkGhosts}
use Rattle.outside.specs.Causes.{Rose}
use Rattle.outside.specs.Grown.{Grew, GrewByPart}

-- These bytes were written to a sink, or a write failed.
--
-- whole: After an Ok all bytes were written, in order.
-- part: After an error a proper prefix of them was written.
-- sound: After an Ok no write failed.
-- failed: After an error a write failed.
-- later: The count of failed writes never falls.
pub record Writes {S X E : Type 0} (s : SinkGhosts S) (result : Result X E) (bytes : List ℕ) (before after : S) : Type 0 where
  pub whole : OnOk result (Grew (s.written before) (s.written after) bytes)
  pub part : OnErr result (GrewByPart (s.written before) (s.written after) bytes)
  pub sound : OnOk result (s.faults after ≡ s.faults before)
  pub failed : OnErr result (Rose (s.faults before) (s.faults after))
  pub later : s.faults before ≤ s.faults after
