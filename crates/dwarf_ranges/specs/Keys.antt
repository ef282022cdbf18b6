-- The ranges of a unit by what they depend on: its key. So units with the same key need their range list read only
-- once.
use Rattle.std.specs.Prelude.{◌≡◌, ℕ, List, Result}
use Rattle.size_core.specs.declared.fault.BadFile.{BadFile}
use Rattle.size_core.specs.Checks.{◌>>=◌}
use Rattle.dwarf_units.specs.declared.sections.Sections.{Sections}
use Rattle.dwarf_units.specs.Roots.{RootRecord}
use Rattle.dwarf_ranges.specs.declared.ranges.RangeKey.{RangeKey}
use Rattle.dwarf_ranges.specs.Lists.{list_of}
use Rattle.dwarf_ranges.specs.Ranges.{list_at, or_zero, ranges_of}

-- The ranges of a unit by its key. Faults of the list's name have the file offset `place` (DWARF 5, section 2.17.3).
abbrev pub listed : Sections → RangeKey → ℕ → Result (List (ℕ × ℕ)) BadFile
listed s key place =
    list_at s key.context.shape key.context.lists place key.name
    >>= λ w. list_of s key.context.shape key.context.table (or_zero key.context.low) w

-- The ranges of a unit are those of this key.
pub record IsKeyOf (s : Sections) (root : RootRecord) (key : RangeKey) : Type 0 where
  pub place : ℕ
  pub is : ranges_of s root ≡ listed s key place
