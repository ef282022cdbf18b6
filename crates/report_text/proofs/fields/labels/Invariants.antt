use Rattle.std.proofs.Common.{◌≡◌, map, take}
use Rattle.report_text.proofs.fields.labels.Given as goal

-- The labels so far.
abbrev pub invariant-loop-label : goal.invariant-loop-label
invariant-loop-label l = map (λ f. f.now) l.fields.items ≡ map (λ f. f.now) (take l.label-index l.path)
