-- The claims of the debug sections of a Mach-O file.
use Rattle.std.specs.Prelude.{ℕ, List, Result}
use Rattle.size_core.specs.declared.fault.BadFile.{BadFile}
use Rattle.size_core.specs.Checks.{◌>>=◌}
use Rattle.size_model.specs.declared.view.LabelledClaim.{LabelledClaim}
use Rattle.dwarf_claims.specs.LineClaims.{lines_claims as claims_of_lines}
use Rattle.dwarf_claims.specs.SetClaims.{compile_units_claims}
use Rattle.macho_claims.specs.DebugSections.{debug_sections}

-- The claims of the compile units, or the first fault. A fault of the debug sections comes first.
unfoldable pub units_claims : List ℕ → Result (List LabelledClaim) BadFile
units_claims file = debug_sections file >>= λ s. compile_units_claims s

-- The claims of the source lines, or the first fault. A fault of the debug sections comes first.
unfoldable pub lines_claims : List ℕ → Result (List LabelledClaim) BadFile
lines_claims file = debug_sections file >>= λ s. claims_of_lines s
