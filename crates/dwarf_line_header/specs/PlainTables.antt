-- The tables of DWARF 2 to 4: entries up to one with an empty name (DWARF 4, section 6.2.4).
use Rattle.std.specs.Prelude.{ℕ, zero, suc, ◌-◌, ◌==◌, Bool, true, false, List, [], length, Ok}
use Rattle.size_core.specs.declared.fault.Fault.TheVariants.{Truncated}
use Rattle.size_core.specs.Checks.{◌>>=◌, bad}
use Rattle.byte_cursor.specs.Window.{Window, place_of}
use Rattle.dwarf_line_header.specs.declared.entry.TableKind.{TableKind}
use Rattle.dwarf_line_header.specs.declared.entry.TableKind.TheVariants.{Directories, Files}
use Rattle.dwarf_abbrev.specs.Reads.{Reading, text_from, uleb_from}
use Rattle.dwarf_line_header.specs.Tables.{Entry, before}

-- The number of a file's directory. The file's time and length follow it. Nothing follows an empty name (DWARF
-- 4, section 6.2.4).
unfoldable pub numbers_from : TableKind → Bool → Window → Reading ℕ
numbers_from kind true w = Ok (0, w)
numbers_from Directories false w = Ok (0, w)
numbers_from Files false w = do
  directory ← uleb_from w
  time ← uleb_from directory.1
  len ← uleb_from time.1
  Ok (directory.0, len.1)

-- An entry of a table (DWARF 4, section 6.2.4).
unfoldable pub plain_entry : TableKind → Window → Reading Entry
plain_entry kind w = do
  name ← text_from w
  directory ← numbers_from kind (length name.0 == 0) name.1
  Ok (record { name = name.0; directory = directory.0 }, directory.1)

-- The entries up to one with an empty name: none if this entry is that one, or else this one and the rest
-- (DWARF 4, section 6.2.4).
abbrev pub up_to_empty : Bool → Entry × Window → Reading (List Entry) → Reading (List Entry)
up_to_empty true x rest = Ok ([], x.1)
up_to_empty false x rest = before x.0 rest

-- The entries up to one with an empty name, if that is among the first n (DWARF 4, section 6.2.4).
unfoldable pub plain_from : TableKind → ℕ → Window → Reading (List Entry)
plain_from kind zero w = bad Truncated (place_of w)
plain_from kind (suc n) w = do
  x ← plain_entry kind w
  up_to_empty (length x.0.name == 0) x (plain_from kind n x.1)

-- A table. Each entry takes at least one byte (DWARF 4, section 6.2.4).
abbrev pub plain_table : TableKind → Window → Reading (List Entry)
plain_table kind w = plain_from kind (length w.bytes - w.at) w
