use Rattle.std.proofs.Common.{◌≡◌, map, string_bytes, take}
use Rattle.size_options.proofs.run_options.names_by.Given as goal

abbrev pub invariant-loop-word : goal.invariant-loop-word
invariant-loop-word l = l.names ≡ map string_bytes (take l.word-index l.words)
