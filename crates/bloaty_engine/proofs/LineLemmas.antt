-- The line of an outcome from what a write did.
use Rattle.std.proofs.Common.{◌≡◌, ℕ, List, length, Result, Ok, Err, arith}
use Rattle.std.proofs.lemmas.List.{take_all}
use Rattle.outside.specs.declared.sink.Sink.{Ghosts as SinkGhosts}
use Rattle.outside.specs.Writes.{Writes}
use Rattle.run_outcome.specs.declared.outcome.Outcome.{Outcome}
use Rattle.run_outcome.specs.declared.outcome.Outcome.TheVariants.{Done}
use Rattle.bloaty_engine.specs.Devices.{PrintsLine}

pub line-printed : {S X E : Type 0} {e : SinkGhosts S} {r : Result X E} {line : List ℕ} {outcome : Outcome} {s t : S} → Writes e r line s t → (outcome ≡ Done → e.written t ≡ e.written s) → PrintsLine e line outcome s t
line-printed {r = Ok x} {line = line} w silent = record { part = (length line, rw (take_all (length line) line (omega arith)) w.whole); whole = λ none. w.whole; silent = silent }
line-printed {r = Err x} w silent = record { part = (w.part.count, w.part.is); whole = λ none. absurd (none w.failed); silent = silent }
