-- What is known of the declarations of a table of abbreviations.
use Rattle.std.specs.Prelude.{List, Some}
use Rattle.dwarf_abbrev.specs.Declarations.{Declaration, declared}
use Rattle.dwarf_units.specs.Filling.{AreRootsOf, IsIndexOf}
use Rattle.dwarf_claims.specs.declared.known_codes.KnownCodes.{KnownCodes}
use Rattle.dwarf_claims.specs.declared.known_codes.KnownCodes.TheVariants.{Nothing, One, Index}

-- What is known of declarations gives the same roots as they do.
abbrev pub IsKnownOf : List Declaration → KnownCodes → Type 0
IsKnownOf declarations Nothing = Unit {0}
IsKnownOf declarations (One known) = AreRootsOf (declared declarations known.code) (Some known.specs.items)
IsKnownOf declarations (Index index) = IsIndexOf declarations index
