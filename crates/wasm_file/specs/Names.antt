-- The names of functions (WebAssembly core 2.0, 7.4.1 Name Section).
use Rattle.std.specs.Prelude.{ℕ, zero, suc, ◌-◌, ◌==◌, Bool, false, List, [], ◌∷◌, length, codes, Option, Some, None, Ok, Err, if◌then◌else◌}
use Rattle.std.specs.Str.{bytes_eq}
use Rattle.size_core.specs.Checks.{Check, first_of}
use Rattle.byte_cursor.specs.Window.{Window}
use Rattle.wasm_file.specs.declared.constants.TheConstants.{FUNCTION_NAMES}
use Rattle.wasm_file.specs.Numbers.{◌>>=◌, byte_at, number_at, piece_at, name_at}
use Rattle.wasm_file.specs.Records.{checks_of, values, vector}
use Rattle.wasm_file.specs.Sections.{SectionRecord}

-- There is a name, and it is the wanted one.
abbrev pub is_name : Option (List ℕ) → List ℕ → Bool
is_name None wanted = false
is_name (Some name) wanted = bytes_eq name wanted

-- The contents of the first custom section with this name (WebAssembly core 2.0, 5.5.3 Custom Section).
abbrev pub custom_named : List ℕ → List SectionRecord → Option Window
custom_named wanted [] = None
custom_named wanted (s ∷ sections) = if is_name s.name wanted then Some s.contents else custom_named wanted sections

-- The id and the contents of the subsection at the position of a window, and the next offset (WebAssembly
-- core 2.0, 7.4.1 Name Section).
unfoldable pub subsection_at : Window → Option ((ℕ × Window) × ℕ)
subsection_at w = do
  kind ← byte_at w.bytes w.at
  contents ← piece_at w.base w.bytes kind.1
  Some ((kind.0, contents.0), contents.1)

-- The contents of the first subsection with this id, among at most this many from the position of a window
-- on.
unfoldable pub subsection_within : ℕ → ℕ → Window → Option Window
subsection_within zero id w = None
subsection_within (suc fuel) id w = do
  s ← subsection_at w
  if s.0.0 == id then Some s.0.1 else subsection_within fuel id (record w { at = s.1 })

-- The contents of the first subsection with this id, from the position of a window on. A subsection has at
-- least one byte, so the length of the window is enough as a bound (WebAssembly core 2.0, 7.4.1 Name
-- Section).
unfoldable pub subsection_from : ℕ → Window → Option Window
subsection_from id w = subsection_within (length w.bytes - w.at) id w

-- The pair of function index and name at the position of a window, and the next offset (WebAssembly core
-- 2.0, 7.4.1 Name Section).
unfoldable pub pair_at : Window → Option ((ℕ × List ℕ) × ℕ)
pair_at w = do
  index ← number_at w.bytes w.at
  name ← name_at w.bytes index.1
  Some ((index.0, name.0), name.1)

-- The records if the check holds, and no records otherwise.
abbrev pub whole_or_none : {X : Type 0} → Check → List X → List X
whole_or_none (Ok x) read = read
whole_or_none (Err e) read = []

-- The pairs of a subsection, and none if one of them can't be read (WebAssembly core 2.0, 7.4.1 Name
-- Section).
unfoldable pub pairs_in : Option Window → List (ℕ × List ℕ)
pairs_in None = []
pairs_in (Some w) = whole_or_none (first_of (checks_of (vector pair_at w))) (values (vector pair_at w))

-- The contents of the function names subsection of a custom section. The contents of the section begin with
-- its own name (WebAssembly core 2.0, 7.4.1 Name Section).
unfoldable pub subsection_of_names : Option Window → Option Window
subsection_of_names section = do
  w ← section
  own ← name_at w.bytes w.at
  subsection_from FUNCTION_NAMES (record w { at = own.1 })

-- The function names of a module with these sections, as pairs of index and name: those of the first custom
-- section `name` (WebAssembly core 2.0, 7.4.1 Name Section).
unfoldable pub function_names : List SectionRecord → List (ℕ × List ℕ)
function_names sections = pairs_in (subsection_of_names (custom_named (codes "name") sections))

-- The name in the first pair with this index.
abbrev pub first_of_index : ℕ → List (ℕ × List ℕ) → Option (List ℕ)
first_of_index index [] = None
first_of_index index (p ∷ pairs) = if p.0 == index then Some p.1 else first_of_index index pairs

-- The name, if it isn't empty.
abbrev pub some_name : Option (List ℕ) → Option (List ℕ)
some_name None = None
some_name (Some []) = None
some_name (Some (c ∷ name)) = Some (c ∷ name)

-- The name of a function in these pairs: that of the first pair with its index, if it isn't empty.
abbrev pub name_in : List (ℕ × List ℕ) → ℕ → Option (List ℕ)
name_in pairs index = some_name (first_of_index index pairs)
