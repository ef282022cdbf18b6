-- The functions of a module that have bodies (WebAssembly core 2.0, 5.5.13 Code Section).
use Rattle.std.specs.Prelude.{ℕ, ◌+◌, ◌-◌, ◌==◌, Bool, List, [], ◌∷◌, ◌++◌, Option, Some, None, Result, option_map, if◌then◌else◌}
use Rattle.size_core.specs.declared.fault.BadFile.{BadFile}
use Rattle.size_core.specs.Checks.{Check}
use Rattle.byte_cursor.specs.Window.{Window, place_of}
use Rattle.wasm_file.specs.declared.body.Extent.{Extent}
use Rattle.wasm_file.specs.declared.constants.TheConstants.{IMPORT, CODE}
use Rattle.wasm_file.specs.Numbers.{piece_at}
use Rattle.wasm_file.specs.Records.{checks_of, values, vector}
use Rattle.wasm_file.specs.Sections.{SectionRecord}
use Rattle.wasm_file.specs.Imports.{imports_in, function_count}
use Rattle.wasm_file.specs.Names.{function_names, name_in}
use Rattle.wasm_file.specs.Module.{sections_of, checked}

-- The contents of the first section with this id (WebAssembly core 2.0, 5.5.2 Sections).
abbrev pub first_with : ℕ → List SectionRecord → Option Window
first_with id [] = None
first_with id (s ∷ sections) = if s.id == id then Some s.contents else first_with id sections

-- The body at the position of a window, which is a size field and that many bytes, and the next offset
-- (WebAssembly core 2.0, 5.5.13 Code Section).
unfoldable pub body_at : Window → Option (Extent × ℕ)
body_at w = option_map (λ x. (record { place = place_of w; len = x.1 - w.at }, x.1)) (piece_at w.base w.bytes w.at)

-- The bodies of a Code section, and none if there is no such section. One that can't be read is a fault
-- (WebAssembly core 2.0, 5.5.13 Code Section).
unfoldable pub bodies_in : Option Window → List (Result Extent BadFile)
bodies_in None = []
bodies_in (Some w) = vector body_at w

-- A body with the index and the name of its function (WebAssembly core 2.0, 2.5.1 Indices).
pub record BodyRecord : Type 0 where
  pub index : ℕ
  pub place : ℕ
  pub len : ℕ
  pub name : Option (List ℕ)

-- The bodies with the function indices from first on, and their names in these pairs (WebAssembly core 2.0,
-- 2.5.1 Indices).
abbrev pub numbered : List (ℕ × List ℕ) → ℕ → List Extent → List BodyRecord
numbered names first [] = []
numbered names first (body ∷ bodies) = record { index = first; place = body.place; len = body.len; name = name_in names first } ∷ numbered names (first + 1) bodies

-- The imports of a module. One that can't be read is a fault (WebAssembly core 2.0, 5.5.5 Import Section).
abbrev pub imports_of : List ℕ → List (Result Bool BadFile)
imports_of file = imports_in (first_with IMPORT (sections_of file))

-- The file ranges of the bodies of a module. One that can't be read is a fault (WebAssembly core 2.0,
-- 5.5.13 Code Section).
abbrev pub extents_of : List ℕ → List (Result Extent BadFile)
extents_of file = bodies_in (first_with CODE (sections_of file))

-- The checks of the functions: those of the imports, and then those of the bodies.
unfoldable pub function_checks : List ℕ → List Check
function_checks file = checks_of (imports_of file) ++ checks_of (extents_of file)

-- The functions with bodies. Imported functions have the first indices (WebAssembly core 2.0, 5.5.13 Code
-- Section).
unfoldable pub bodies_of : List ℕ → List BodyRecord
bodies_of file = numbered (function_names (sections_of file)) (function_count (imports_of file)) (values (extents_of file))

-- The functions with bodies, or the first fault (WebAssembly core 2.0, 5.5.13 Code Section).
abbrev pub functions_of : List ℕ → Result (List BodyRecord) BadFile
functions_of file = checked (function_checks file) (bodies_of file)

-- The name of a function of a module (WebAssembly core 2.0, 7.4.1 Name Section).
unfoldable pub name_of : List ℕ → ℕ → Option (List ℕ)
name_of file index = name_in (function_names (sections_of file)) index
