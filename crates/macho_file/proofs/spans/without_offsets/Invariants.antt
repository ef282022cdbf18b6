use Rattle.std.proofs.Common.{◌≡◌, map, take}
use Rattle.macho_symbols.specs.Shown.{named_shown}
use Rattle.macho_file.specs.Shown.{span_shown}
use Rattle.macho_file.proofs.spans.without_offsets.Given as goal

-- The spans so far.
abbrev pub invariant-loop-item : goal.invariant-loop-item
invariant-loop-item l = map span_shown l.spans.items ≡ map named_shown (take l.item-index l.named)
