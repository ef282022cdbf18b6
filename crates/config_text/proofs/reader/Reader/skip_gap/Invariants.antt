use Rattle.std.proofs.Common.{◌≡◌, ◌+◌, ◌≤◌, length}
use Rattle.config_text.specs.Tokens.{spelled, Between}
use Rattle.config_text.specs.Reads.{gap}
use Rattle.config_text.proofs.reader.Reader.skip_gap.Given as goal

abbrev pub invariant-gap : goal.invariant-gap
invariant-gap l = record {
  same : spelled l.rest (gap l.in_comment) l.at ≡ spelled l.fn.self.rest Between l.fn.self.at;
  left : length l.rest ≤ length l.fn.self.rest;
  place : l.at + length l.rest ≡ l.fn.self.at + length l.fn.self.rest;
}

abbrev pub decreases-gap : goal.decreases-gap
decreases-gap l = length l.rest
