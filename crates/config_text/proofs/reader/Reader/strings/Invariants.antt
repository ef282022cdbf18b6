use Rattle.std.proofs.Common.{◌≡◌, ◌≤◌, true, length}
use Rattle.config_text.specs.Tokens.{ahead, quoted_before}
use Rattle.config_text.specs.Reads.{begins_token}
use Rattle.config_text.proofs.reader.Reader.strings.Given as goal

abbrev pub invariant-strings : goal.invariant-strings
invariant-strings l = record {
  same : ahead l.fn.self ≡ quoted_before l.fn.self.at l.value.items (ahead l.self);
  begins : begins_token l.self.rest ≡ true;
  left : length l.self.rest ≤ length l.fn.self.rest;
}

abbrev pub decreases-strings : goal.decreases-strings
decreases-strings l = length l.self.rest
