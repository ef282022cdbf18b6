use Rattle.std.proofs.Common.{◌≡◌, map, take}
use Rattle.report_text.proofs.fields.names.Given as goal

-- The names so far.
abbrev pub invariant-loop-i : goal.invariant-loop-i
invariant-loop-i l = map (λ f. f.now) l.fields.items ≡ take l.i l.sources
