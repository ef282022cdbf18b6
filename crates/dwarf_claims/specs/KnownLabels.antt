-- The label of the unit that was read last, by the section and offset of its name.
use Rattle.std.specs.Prelude.{◌≡◌, ℕ, List, Option, None, Some, Result, Ok}
use Rattle.size_core.specs.declared.fault.BadFile.{BadFile}
use Rattle.size_core.specs.Checks.{◌>>=◌}
use Rattle.dwarf_units.specs.declared.sections.Sections.{Sections}
use Rattle.dwarf_units.specs.declared.strings.StringAt.{StringAt}
use Rattle.dwarf_units.specs.Strings.{named, string_in_section}
use Rattle.dwarf_claims.specs.declared.last_label.LastLabel.{LastLabel}
use Rattle.dwarf_claims.specs.UnitClaims.{or_unnamed}

-- The label of a unit whose name is this string, or the fault of the string (DWARF 5, section 3.1.1).
abbrev pub label_in_section : Sections → StringAt → ℕ → Result (List ℕ) BadFile
label_in_section s name place = named (string_in_section s name place) >>= λ text. Ok (or_unnamed text)

-- A kept label, if its name is in a section, is that of the name.
abbrev pub IsLabelBy : Sections → Option StringAt → List ℕ → Type 0
IsLabelBy s None label = Unit {0}
IsLabelBy s (Some name) label = (place : ℕ) → label_in_section s name place ≡ Ok label

-- The kept label is what reading the name again would return.
abbrev pub IsLabelOf : Sections → LastLabel → Type 0
IsLabelOf s last = IsLabelBy s last.name last.label.text.now
