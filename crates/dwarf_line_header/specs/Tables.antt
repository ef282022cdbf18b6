-- The directories and the files of a line program, as contracts see them.
use Rattle.std.specs.Prelude.{ℕ, zero, suc, List, [], ◌∷◌, Ok, Err}
use Rattle.size_core.specs.Checks.{◌>>=◌}
use Rattle.byte_cursor.specs.Window.{Window}
use Rattle.dwarf_abbrev.specs.Reads.{Reading}
use Rattle.dwarf_line_header.specs.declared.entry.FileEntry.{FileEntry}

-- A name, and the number of a directory.
pub record Entry : Type 0 where
  pub name : List ℕ
  pub directory : ℕ

-- An entry as contracts see it.
abbrev pub shown : FileEntry → Entry
shown e = record { name = e.name.now; directory = e.directory }

-- The items of a list, or none if the list can't be read.
abbrev pub items_of : {X : Type 0} → Reading (List X) → List X
items_of (Ok x) = x.0
items_of (Err e) = []

-- A read without its value: only the window after it is kept.
unfoldable pub passed_over : {X : Type 0} → Reading X → Reading (Unit {0})
passed_over (Ok x) = Ok (tt, x.1)
passed_over (Err e) = Err e

-- An item before the items of a read.
abbrev pub before : {X : Type 0} → X → Reading (List X) → Reading (List X)
before x (Ok xs) = Ok (x ∷ xs.0, xs.1)
before x (Err e) = Err e

-- The next n items, one after another.
unfoldable pub many_from : {X : Type 0} → (Window → Reading X) → ℕ → Window → Reading (List X)
many_from read zero w = Ok ([], w)
many_from read (suc n) w = do
  x ← read w
  before x.0 (many_from read n x.1)
