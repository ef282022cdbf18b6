use Rattle.std.proofs.Common.{◌≡◌, ◌++◌, drop}
use Rattle.std.specs.List.{flat_map}
use Rattle.report_text.specs.Places.{beaten_line}
use Rattle.report_text.proofs.places.push_claims.Given as goal

-- The lines so far, and those of the claims that are left.
abbrev pub invariant-loop-k : goal.invariant-loop-k
invariant-loop-k l = l.out.items ++ flat_map (beaten_line l.wide) (drop l.k l.claims) ≡ l.initial.out.items ++ flat_map (beaten_line l.wide) (drop 1 l.claims)
