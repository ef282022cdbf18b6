use Rattle.std.proofs.Common.{◌≡◌, map, take}
use Rattle.report_rows.proofs.listing.rows.Given as goal

-- The rows so far.
abbrev pub invariant-loop-i : goal.invariant-loop-i
invariant-loop-i l = map (λ r. r.now) l.all.items ≡ take l.i l.rollup.rows
