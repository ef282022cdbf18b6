-- The imports of a module (WebAssembly core 2.0, 5.5.5 Import Section).
use Rattle.std.specs.Prelude.{ℕ, ◌%◌, ◌==◌, Bool, List, [], Option, Some, None, Result, if◌then◌else◌, count_by}
use Rattle.size_core.specs.declared.fault.BadFile.{BadFile}
use Rattle.byte_cursor.specs.Window.{Window}
use Rattle.wasm_file.specs.declared.constants.TheConstants.{FUNCTION_IMPORT, TABLE_IMPORT, MEMORY_IMPORT, GLOBAL_IMPORT}
use Rattle.wasm_file.specs.Numbers.{◌>>=◌, next_offset, byte_at, number_at, long_number_at, name_at}
use Rattle.wasm_file.specs.Records.{vector, values}

-- The offset after limits, which are a flag and the minimum, and the maximum if bit 0 of the flag is set
-- (WebAssembly core 2.0, 5.3.7 Limits).
unfoldable pub after_limits : List ℕ → ℕ → Option ℕ
after_limits bytes at = do
  flag ← byte_at bytes at
  least ← long_number_at bytes flag.1
  if flag.0 % 2 == 1 then next_offset (long_number_at bytes least.1) else Some least.1

-- The offset after the description of an import of this kind: the type index of a function, a byte and
-- limits for a table, limits for a memory, and two bytes for a global (WebAssembly core 2.0, 5.5.5 Import
-- Section).
unfoldable pub after_description : List ℕ → ℕ → ℕ → Option ℕ
after_description bytes kind at =
    if kind == FUNCTION_IMPORT then next_offset (number_at bytes at)
    else if kind == TABLE_IMPORT then next_offset (byte_at bytes at) >>= after_limits bytes
    else if kind == MEMORY_IMPORT then after_limits bytes at
    else if kind == GLOBAL_IMPORT then next_offset (byte_at bytes at) >>= (λ next. next_offset (byte_at bytes next))
    else None

-- Whether the import at the position of a window is a function, and the next offset. An import is two
-- names, a kind and a description (WebAssembly core 2.0, 5.5.5 Import Section).
unfoldable pub import_at : Window → Option (Bool × ℕ)
import_at w = do
  from ← name_at w.bytes w.at
  name ← name_at w.bytes from.1
  kind ← byte_at w.bytes name.1
  next ← after_description w.bytes kind.0 kind.1
  Some (kind.0 == FUNCTION_IMPORT, next)

-- The imports of an Import section, and none if there is no such section. One that can't be read is a
-- fault (WebAssembly core 2.0, 5.5.5 Import Section).
unfoldable pub imports_in : Option Window → List (Result Bool BadFile)
imports_in None = []
imports_in (Some w) = vector import_at w

-- How many of the imports are functions (WebAssembly core 2.0, 5.5.5 Import Section).
abbrev pub function_count : List (Result Bool BadFile) → ℕ
function_count imports = count_by (λ is_function. is_function) (values imports)
