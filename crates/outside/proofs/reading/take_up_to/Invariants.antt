use Rattle.std.proofs.Common.{◌≡◌, vec_len, ◌+◌, ◌-◌, ◌≤◌, take}
use Rattle.std.specs.Io.KnownBytes.{Consumes}
use Rattle.outside.specs.Turns.{turn_most}
use Rattle.outside.proofs.TurnLemmas.{Filled}
use Rattle.outside.proofs.reading.take_up_to.Given as goal

abbrev pub invariant-loop-filled : goal.invariant-loop-filled
invariant-loop-filled g l = record {
  within : l.filled ≤ vec_len l.bytes;
  room : vec_len l.bytes ≤ l.most;
  read : Consumes (g.F.Read.remaining l.initial.file.file) (g.F.Read.remaining l.file.file) (take l.filled l.bytes.items);
  chunk : vec_len l.bytes ≤ l.filled + turn_most;
  turns : Filled l.initial.file.turns l.file.turns (take l.filled l.bytes.items);
  failures : l.file.failures ≡ l.initial.file.failures;
}

abbrev pub decreases-loop-filled : goal.decreases-loop-filled
decreases-loop-filled g l = l.most - l.filled
