-- The position of a cursor after a read.
use Rattle.std.specs.Prelude.{◌≡◌, ℕ, ◌≤◌, Option, Some, None, Ok}
use Rattle.byte_cursor.specs.Window.{Window}
use Rattle.wasm_file.specs.Sections.{size_at}

-- next is the window after a read that returns only the next offset.
pub record IsPassed (w : Window) (next_offset : Option ℕ) (next : Window) : Type 0 where
  pub read : next_offset ≡ Some next.at
  pub same : next ≡ record w { at = next.at }

-- The size field at the position of a window has this value, and next is the same window with its position after the
-- field. place is the file offset of the section.
pub record HasSize (w : Window) (place size : ℕ) (next : Window) : Type 0 where
  pub read : size_at w.bytes w.at place ≡ Ok (size, next.at)
  pub same : next ≡ record w { at = next.at }
  pub forward : w.at ≤ next.at

-- The first of two values that exists.
abbrev pub or_else : {X : Type 0} → Option X → Option X → Option X
or_else None y = y
or_else (Some x) y = Some x
