-- The host's files and sinks as contracts see them.
use Rattle.std.specs.Prelude.{ℕ, List, length}
use Rattle.std.specs.List.{concat}
use Rattle.outside.specs.Held.{Pairs}

-- The host's files: how many reads failed, the bytes of each turn, each requested name, and each successful read as
-- its name and the bytes that it returned. Each list is in order.
pub record SeenHost : Type 0 where
  pub faults : ℕ
  pub turns : List (List ℕ)
  pub asked : List (List ℕ)
  pub gave : Pairs

-- How many bytes all turns took.
abbrev pub taken_by : SeenHost → ℕ
taken_by f = length (concat f.turns)

-- A sink over a writer: the writer, how many writes failed, and the bytes that the writer took and then flushed.
pub record SeenSink (W : Type 0) : Type 0 where
  pub writer : W
  pub faults : ℕ
  pub accepted : List ℕ
