use Rattle.std.proofs.Common.{◌≡◌, ◌<◌, ℕ, false, get_or, leb}
use Rattle.report_rows.proofs.limits.position.Given as goal

-- The keys so far are larger.
abbrev pub invariant-loop-i : goal.invariant-loop-i
invariant-loop-i g l = (k : ℕ) (d : _) → k < l.i → leb (g.G.Grouped.key (get_or l.groups k d)) (g.G.Grouped.key l.others) ≡ false
