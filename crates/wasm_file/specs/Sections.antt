-- The sections of a module (WebAssembly core 2.0, 5.5.2 Sections).
use Rattle.std.specs.Prelude.{◌≡◌, ℕ, zero, suc, ◌+◌, ◌-◌, ◌==◌, List, [], ◌∷◌, length, Option, Some, None, Result, Ok, Err, is_some, nat_lt, nat_le, if◌then◌else◌}
use Rattle.std.specs.Int.{w8}
use Rattle.size_core.specs.declared.fault.BadFile.{BadFile}
use Rattle.size_core.specs.declared.fault.Fault.{Fault}
use Rattle.size_core.specs.declared.fault.Fault.TheVariants.{Truncated, BadLeb, SectionPastEnd}
use Rattle.size_core.specs.Checks.{◌>>=◌, ◌>>◌, Check, demand, bad, first_of}
use Rattle.byte_cursor.specs.declared.order.Order.TheVariants.{Little}
use Rattle.byte_cursor.specs.Numbers.{field, uleb}
use Rattle.byte_cursor.specs.Window.{Window}
use Rattle.wasm_file.specs.declared.constants.TheConstants.{CUSTOM}
use Rattle.wasm_file.specs.Records.{checks_of, values}
use Rattle.wasm_file.specs.Numbers.{number_at, name_at, value_of, window_at}

-- A section: the file offset of its id, its length to the end of its contents, its id, its name and its
-- contents (WebAssembly core 2.0, 5.5.2 Sections).
pub record SectionRecord : Type 0 where
  pub place : ℕ
  pub len : ℕ
  pub id : ℕ
  pub name : Option (List ℕ)
  pub contents : Window

-- The name at the start of the contents of a custom section, if it can be read (WebAssembly core 2.0,
-- 5.5.3 Custom Section).
unfoldable pub section_name : ℕ → List ℕ → Option (List ℕ)
section_name id contents = if id == CUSTOM then value_of (name_at contents 0) else None

-- The section whose id is at an offset. size has the size of its contents and their offset.
abbrev pub section_of : List ℕ → ℕ → ℕ × ℕ → SectionRecord
section_of file at size = let contents = window_at 0 file size in record {
  place = at;
  len = size.1 + size.0 - at;
  id = field file at w8 Little;
  name = section_name (field file at w8 Little) contents.bytes;
  contents = contents;
}

-- The value, or this fault if there is none.
abbrev pub present : {X : Type 0} → Option X → Fault → ℕ → Result X BadFile
present None fault place = bad fault place
present (Some x) fault place = Ok x

-- The size field at an offset, and the offset after it. Truncated if it has no end, and BadLeb if it
-- isn't a number below 2^32 in at most five bytes; both faults are at offset place (WebAssembly core 2.0,
-- 5.5.2 Sections).
unfoldable pub size_at : List ℕ → ℕ → ℕ → Result (ℕ × ℕ) BadFile
size_at file at place = do
  demand (is_some (uleb file at)) Truncated place
  size ← present (number_at file at) BadLeb place
  Ok size

-- The section at an offset: its id, the size field, and the contents, which lie in the file (WebAssembly
-- core 2.0, 5.5.2 Sections).
unfoldable pub section_at : List ℕ → ℕ → Result SectionRecord BadFile
section_at file at = do
  size ← size_at file (at + 1) at
  demand (nat_le (size.1 + size.0) (length file)) SectionPastEnd at
  Ok (section_of file at size)

-- A section and then those from its end on, or its fault.
abbrev pub with_rest : Result SectionRecord BadFile → (ℕ → List (Result SectionRecord BadFile)) → List (Result SectionRecord BadFile)
with_rest (Err e) rest = Err e ∷ []
with_rest (Ok s) rest = Ok s ∷ rest (s.place + s.len)

-- At most this many sections from an offset on, up to the end of the file or the first that can't be read.
unfoldable pub sections_within : ℕ → List ℕ → ℕ → List (Result SectionRecord BadFile)
sections_within zero file at = []
sections_within (suc fuel) file at = if nat_lt at (length file) then with_rest (section_at file at) (sections_within fuel file) else []

-- The sections from an offset on. A section has at least one byte, so the remaining length of the file is
-- enough as a bound (WebAssembly core 2.0, 5.5.16 Modules).
unfoldable pub sections_from : List ℕ → ℕ → List (Result SectionRecord BadFile)
sections_from file at = sections_within (length file - at) file at

-- The sections from the position of a window on.
unfoldable pub to_come : Window → List SectionRecord
to_come w = values (sections_from w.bytes w.at)

-- The check that the sections from the position of a window on can be read.
unfoldable pub are_there : Window → Check
are_there w = first_of (checks_of (sections_from w.bytes w.at))

-- The window is that of the whole file, and all sections from its position on can be read.
pub record AreThere (w : Window) : Type 0 where
  pub whole : w.base ≡ 0
  pub there : are_there w ≡ Ok tt

-- The section s is at the position of a window, and next is the same window with its position after s.
pub record IsFound (w : Window) (s : SectionRecord) (next : Window) : Type 0 where
  pub read : section_at w.bytes w.at ≡ Ok s
  pub same : next ≡ record w { at = s.place + s.len }

-- The section at the position of a window can't be read, and this is its fault.
pub record IsUnreadable (w : Window) (e : BadFile) : Type 0 where
  pub fault : section_at w.bytes w.at ≡ Err e
