-- The ranges of the unit that was read last.
use Rattle.std.specs.Prelude.{◌≡◌, ℕ, Bool, true, false, List, Option, None, Some, Ok}
use Rattle.dwarf_ranges.specs.declared.ranges.RangeKey.{RangeKey}
use Rattle.dwarf_ranges.specs.Hollow.{AreOneList, IsHollowKey}
use Rattle.dwarf_ranges.specs.Keys.{listed}
use Rattle.dwarf_units.specs.declared.sections.Sections.{Sections}
use Rattle.dwarf_claims.specs.declared.last_ranges.LastRanges.{LastRanges}

-- Units with these keys have the same ranges: the keys are the same, or they name one list that has no ranges.
abbrev pub HaveSameRanges : Bool → RangeKey → RangeKey → Type 0
HaveSameRanges true a b = AreOneList a b
HaveSameRanges false a b = a ≡ b

-- The kept ranges, if they have a key, are those of the key.
abbrev pub AreKnownBy : Sections → Option RangeKey → List (ℕ × ℕ) → Type 0
AreKnownBy s None ranges = Unit {0}
AreKnownBy s (Some key) ranges = (place : ℕ) → listed s key place ≡ Ok ranges

-- If `is_hollow` is true and there is a key, the list of the key has no ranges.
abbrev pub IsHollowBy : Sections → Bool → Option RangeKey → Type 0
IsHollowBy s is_hollow None = Unit {0}
IsHollowBy s is_hollow (Some key) = is_hollow ≡ true → IsHollowKey s key

-- The kept ranges are what reading them again would return.
pub record AreRangesOf (s : Sections) (last : LastRanges) : Type 0 where
  pub known : AreKnownBy s last.key last.ranges.items
  pub hollow : IsHollowBy s last.is_hollow last.key
