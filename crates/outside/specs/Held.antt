-- What files hold.
use Rattle.std.specs.Prelude.{◌≡◌, ℕ, ◌+◌, ◌<◌, ◌≤◌, List, [], ◌∷◌, length, ⊤, if◌then◌else◌, Option, None, Some}
use Rattle.std.specs.Str.{bytes_eq}
use Rattle.outside.specs.Causes.{RoseBy}

-- Names, and the bytes of each.
abbrev pub Pairs : Type 0
Pairs = List (List ℕ × List ℕ)

-- The bytes of a name: those of its first pair, and none if it has no pair.
abbrev pub held_bytes : Pairs → List ℕ → List ℕ
held_bytes [] name = []
held_bytes (pair ∷ rest) name = if bytes_eq pair.0 name then pair.1 else held_bytes rest name

-- These are the bytes of the name, if the contents of the files are known.
abbrev pub IsHeld : Option Pairs → List ℕ → List ℕ → Type 0
IsHeld None name bytes = ⊤
IsHeld (Some pairs) name bytes = bytes ≡ held_bytes pairs name

-- The name has more bytes than the limit. If the contents aren't known, the count of read bytes rose by
-- more than the limit.
abbrev pub IsLonger : Option Pairs → List ℕ → ℕ → ℕ → ℕ → Type 0
IsLonger None name limit before now = RoseBy (limit + 1) before now
IsLonger (Some pairs) name limit before now = limit < length (held_bytes pairs name)

-- At least this many bytes were read, if the contents of the files aren't known.
abbrev pub IsTakenAtLeast : Option Pairs → ℕ → ℕ → ℕ → Type 0
IsTakenAtLeast None count before now = RoseBy count before now
IsTakenAtLeast (Some pairs) count before now = ⊤

-- Reads that returned `count` bytes read no other bytes.
--
-- least: All of them were counted, if the contents of the files aren't known.
-- most: No more were counted.
pub record IsTaken (held : Option Pairs) (count before now : ℕ) : Type 0 where
  pub least : IsTakenAtLeast held count before now
  pub most : now ≤ before + count
