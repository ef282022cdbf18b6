-- How many bytes are read before a file is found too long.
use Rattle.std.proofs.Common.{ℕ, ◌+◌, ◌≤◌, List, Option, None, Some, arith}
use Rattle.outside.specs.Held.{Pairs, IsLonger, IsTaken, IsTakenAtLeast}

-- At least 0 bytes were read, which always holds.
pub at-least-any : (held : Option Pairs) (before now : ℕ) → before ≤ now → IsTakenAtLeast held 0 before now
at-least-any None before now le = grind arith
at-least-any (Some pairs) before now le = tt

pub taken-none : (held : Option Pairs) (before : ℕ) → IsTaken held 0 before before
taken-none held before = record { least = at-least-any held before before (omega arith); most = omega arith }

-- A file was found too long after others were read.
pub at-least-behind : (held : Option Pairs) (all m n before between now : ℕ) → all ≤ m + n → IsTakenAtLeast held m before between → IsTakenAtLeast held n between now → IsTakenAtLeast held all before now
at-least-behind None all m n before between now le a b = grind arith
at-least-behind (Some pairs) all m n before between now le a b = tt

pub taken-more : (held : Option Pairs) (m n before between now : ℕ) → IsTaken held m before between → IsTaken held n between now → IsTaken held (m + n) before now
taken-more held m n before between now a b = record { least = at-least-behind held (m + n) m n before between now (omega arith) a.least b.least; most = omega (arith, a.most, b.most) }

pub at-least-longer : (held : Option Pairs) (name : List ℕ) (limit before now : ℕ) → IsLonger held name limit before now → IsTakenAtLeast held (limit + 1) before now
at-least-longer None name limit before now longer = longer
at-least-longer (Some pairs) name limit before now longer = tt
