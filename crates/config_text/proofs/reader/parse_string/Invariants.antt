use Rattle.std.proofs.Common.{◌≡◌, ◌+◌, ◌≤◌, [], length}
use Rattle.config_text.specs.Tokens.{spelled, InString}
use Rattle.config_text.proofs.reader.parse_string.Given as goal

abbrev pub invariant-bytes : goal.invariant-bytes
invariant-bytes l = record {
  same : spelled l.fn.bytes (InString l.quote l.start []) (l.start + 1) ≡ spelled l.rest (InString l.quote l.start l.value.items) l.at;
  place : l.at + length l.rest ≡ l.start + 1 + length l.fn.bytes;
  left : length l.rest ≤ length l.fn.bytes;
}

abbrev pub decreases-bytes : goal.decreases-bytes
decreases-bytes l = length l.rest
