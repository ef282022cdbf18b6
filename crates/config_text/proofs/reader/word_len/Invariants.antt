use Rattle.std.proofs.Common.{◌≡◌, ℕ, ◌<◌, true, get_or}
use Rattle.config_text.specs.Tokens.{is_in_word}
use Rattle.config_text.proofs.reader.word_len.Given as goal

abbrev pub invariant-loop-i : goal.invariant-loop-i
invariant-loop-i l = (k : ℕ) → k < l.i → is_in_word (get_or l.bytes k 0) ≡ true
