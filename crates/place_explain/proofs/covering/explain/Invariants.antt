use Rattle.std.proofs.Common.{◌≡◌, ◌+◌, ◌++◌, drop}
use Rattle.place_explain.specs.Numbers.{numbers_of}
use Rattle.place_explain.specs.Places.{claim_covers}
use Rattle.place_explain.proofs.covering.explain.Given as goal

-- The numbers so far and those of the claims that are left.
abbrev pub invariant-loop-i : goal.invariant-loop-i
invariant-loop-i l =
    l.numbers ++ numbers_of (claim_covers l.file_len l.base.loads l.place) (l.i + 1) (drop l.i l.claims) ≡ numbers_of (claim_covers l.file_len l.base.loads l.place) 1 l.claims
