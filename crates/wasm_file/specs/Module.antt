-- A module and its checks (WebAssembly core 2.0, 5.5.16 Modules).
use Rattle.std.specs.Prelude.{ℕ, ◌==◌, ◌^◌, ◌<◌, ◌≤◌, List, [], ◌∷◌, ◌++◌, length, Result, nat_le}
use Rattle.std.specs.Int.{w32}
use Rattle.size_core.specs.declared.fault.BadFile.{BadFile}
use Rattle.size_core.specs.declared.fault.Fault.TheVariants.{Truncated, BadHeader}
use Rattle.size_core.specs.Checks.{Check, demand, first_of}
use Rattle.byte_cursor.specs.declared.order.Order.TheVariants.{Little}
use Rattle.byte_cursor.specs.Numbers.{field}
use Rattle.byte_cursor.specs.Window.{Window}
use Rattle.wasm_file.specs.declared.constants.TheConstants.{VERSION}
use Rattle.wasm_file.specs.Records.{checks_of, under, values}
use Rattle.wasm_file.specs.Sections.{AreThere, SectionRecord, sections_from}

-- The checks of the version: it is complete, and it is 1 (WebAssembly core 2.0, 5.5.16 Modules).
unfoldable pub version_checks : List ℕ → List Check
version_checks file =
    demand (nat_le 8 (length file)) Truncated 4
    ∷ demand (field file 4 w32 Little == VERSION) BadHeader 4
    ∷ []

-- The checks of the sections, which follow the magic number and the version (WebAssembly core 2.0, 5.5.16
-- Modules).
abbrev pub section_checks : List ℕ → List Check
section_checks file = checks_of (sections_from file 8)

-- All checks of a module, in order (WebAssembly core 2.0, 5.5.16 Modules).
unfoldable pub module_checks : List ℕ → List Check
module_checks file = version_checks file ++ section_checks file

-- The value if the checks hold, or the first fault.
abbrev pub checked : {X : Type 0} → List Check → X → Result X BadFile
checked checks x = under (first_of checks) x

-- The module, or its first fault.
abbrev pub opened : List ℕ → Result (List ℕ) BadFile
opened file = checked (module_checks file) file

-- The sections of a module, from offset 8 on (WebAssembly core 2.0, 5.5.16 Modules).
abbrev pub sections_of : List ℕ → List SectionRecord
sections_of file = values (sections_from file 8)

-- The file as a window, with its position at the first section.
abbrev pub start_of : List ℕ → Window
start_of file = record { base = 0; bytes = file; at = 8 }

-- What is known of an opened module.
pub record IsOpened (file : List ℕ) : Type 0 where
  pub small : length file < 2 ^ 32
  pub headed : 8 ≤ length file
  pub there : AreThere (start_of file)
