-- The claims of the address sets of `.debug_aranges`.
use Rattle.std.specs.Prelude.{ℕ, ◌==◌, List, [], ◌∷◌, ◌++◌, Option, None, Some, Result, Ok, Err, if◌then◌else◌}
use Rattle.std.specs.List.{flat_map}
use Rattle.size_core.specs.declared.fault.BadFile.{BadFile}
use Rattle.size_core.specs.Checks.{◌>>=◌}
use Rattle.size_model.specs.declared.view.LabelledClaim.{LabelledClaim}
use Rattle.claim_sheet.specs.Read.{joined, read_list}
use Rattle.dwarf_ranges.specs.declared.set.AddressSet.{AddressSet}
use Rattle.dwarf_ranges.specs.Claims.{claims_nothing}
use Rattle.dwarf_ranges.specs.Sets.{sets_of}
use Rattle.dwarf_units.specs.declared.sections.Sections.{Sections}
use Rattle.dwarf_units.specs.declared.unit.DwarfUnit.{DwarfUnit}
use Rattle.dwarf_units.specs.Roots.{root_of}
use Rattle.dwarf_units.specs.Units.{units_of}
use Rattle.dwarf_claims.specs.UnitClaims.{Reading, bytes_claim, label_of, range_claim, units_claims}

-- A label that was read. A fault gives the empty label; the walk over the units stops at that fault before.
abbrev pub told_label : Result (List ℕ) BadFile → List ℕ
told_label (Ok label) = label
told_label (Err e) = []

-- The label of a unit without faults.
abbrev pub unit_label : Sections → DwarfUnit → List ℕ
unit_label s unit = told_label (root_of s unit >>= λ root. label_of s root)

-- The offset in `.debug_info` and the label of a unit in the list of units. A fault in the list has none.
unfoldable pub labelled : Sections → Result DwarfUnit BadFile → List (ℕ × List ℕ)
labelled s (Ok unit) = (unit.offset, unit_label s unit) ∷ []
labelled s (Err e) = []

-- The offsets and labels of all units of the list, in order.
abbrev pub labels_of : Sections → List (Result DwarfUnit BadFile) → List (ℕ × List ℕ)
labels_of s units = flat_map (labelled s) units

-- The label of the unit that begins at an offset of `.debug_info`, if there is one (DWARF 5, section 6.1.2).
abbrev pub label_at : List (ℕ × List ℕ) → ℕ → Option (List ℕ)
label_at [] offset = None
label_at (unit ∷ units) offset = if unit.0 == offset then Some unit.1 else label_at units offset

-- The claim of a tuple (first address, length). An empty tuple claims nothing, nor does one at 0 or at one of the two
-- greatest addresses (DWARF 5, section 6.1.2).
unfoldable pub tuple_claim : List ℕ → ℕ → ℕ × ℕ → List LabelledClaim
tuple_claim label size tuple = if claims_nothing size tuple.0 tuple.1 then [] else range_claim label tuple

-- The claims of an address set under the label of its unit: its tuples, and its bytes in the file. Without such a unit
-- there are none (DWARF 5, section 6.1.2).
unfoldable pub named_claims : AddressSet → Option (List ℕ) → List LabelledClaim
named_claims set None = []
named_claims set (Some label) = flat_map (tuple_claim label set.address) set.tuples ++ bytes_claim label set.place set.len

-- The claims of an item of the list of address sets: a set, or the fault that ends the list (DWARF 5, section 6.1.2).
abbrev pub set_claims : List (ℕ × List ℕ) → Result AddressSet BadFile → Reading
set_claims units set = set >>= λ a. Ok (named_claims a (label_at units a.info_offset))

-- The claims of all address sets, in order, or the fault (DWARF 5, section 6.1.2).
unfoldable pub sets_claims : Sections → Reading
sets_claims s = read_list (set_claims (labels_of s (units_of s))) (sets_of s)

-- The claims of compile units: those of all units, and then those of all address sets, or the first fault.
unfoldable pub compile_units_claims : Sections → Reading
compile_units_claims s = joined (units_claims s) (sets_claims s)
