-- The header of a line program (DWARF 2 to 5, section 6.2.4).
use Rattle.std.specs.Prelude.{ℕ, ◌+◌, ◌-◌, ◌==◌, ◌<◌, ◌≤◌, not, List, length, Option, None, Result, Ok, nat_lt, nat_le, slice_get, if◌then◌else◌}
use Rattle.std.specs.Int.{w8, cast_signed}
use Rattle.size_core.specs.declared.fault.BadFile.{BadFile}
use Rattle.size_core.specs.declared.fault.Fault.TheVariants.{BadHeader, Truncated}
use Rattle.size_core.specs.Checks.{◌>>=◌, ◌>>◌, demand}
use Rattle.byte_cursor.specs.Window.{Window, place_of}
use Rattle.dwarf_abbrev.specs.declared.shape.UnitShape.{UnitShape}
use Rattle.dwarf_abbrev.specs.Lengths.{contents_from}
use Rattle.dwarf_abbrev.specs.Reads.{Reading, byte_from, offset_from, skip_from}
use Rattle.dwarf_line_header.specs.declared.encoding.AddressSize.{AddressSize}
use Rattle.dwarf_line_header.specs.declared.encoding.AddressSize.TheVariants.{Two, Four, Eight}
use Rattle.dwarf_line_header.specs.declared.encoding.LineEncoding.{LineEncoding}
use Rattle.dwarf_line_header.specs.declared.entry.TableKind.{TableKind}
use Rattle.dwarf_line_header.specs.declared.entry.TableKind.TheVariants.{Directories, Files}
use Rattle.dwarf_line_header.specs.FormattedTables.{formatted_table}
use Rattle.dwarf_units.specs.declared.sections.Sections.{Sections}
use Rattle.dwarf_line_header.specs.PlainTables.{plain_table}
use Rattle.dwarf_line_header.specs.Tables.{Entry}

-- The sizes of an address and of a segment selector, which are stored from DWARF 5 on (DWARF 2 to 5, section
-- 6.2.4).
unfoldable pub sizes_from : ℕ → Window → Reading (Unit {0})
sizes_from version w = if nat_lt version 5 then Ok (tt, w) else skip_from 2 w

-- The window at the first instruction, which is header_length bytes after the field header_length (DWARF 2 to
-- 5, section 6.2.4).
unfoldable pub instructions_from : UnitShape → Window → Reading Window
instructions_from s w = do
  sizes ← sizes_from s.version w
  len ← offset_from s.order s.wide sizes.1
  demand (nat_le (len.1.at + len.0) (length len.1.bytes)) Truncated (place_of len.1)
  Ok (record len.1 { at = len.1.at + len.0 }, len.1)

-- The maximum number of operations in an instruction, which is stored from DWARF 4 on. A stored 0 counts as 1
-- (DWARF 2 to 5, section 6.2.4).
unfoldable pub max_ops_from : ℕ → Window → Reading ℕ
max_ops_from version w =
    if nat_lt version 4 then Ok (1, w)
    else byte_from w >>= λ n. Ok ((if n.0 == 0 then 1 else n.0), n.1)

-- A number that isn't 0 (DWARF 2 to 5, section 6.2.4).
unfoldable pub divisor_from : Window → Reading ℕ
divisor_from w = do
  n ← byte_from w
  demand (not (n.0 == 0)) BadHeader (place_of w)
  Ok n

-- The size of an address. A number of bytes other than 2 and 4 counts as 8 (DWARF 2 to 5, section 6.2.4).
abbrev pub address_size : ℕ → AddressSize
address_size n = if n == 2 then Two else if n == 4 then Four else Eight

-- The parameters that the instructions depend on (DWARF 2 to 5, section 6.2.4).
unfoldable pub encoding_from : UnitShape → Window → Reading LineEncoding
encoding_from s w = do
  min_inst ← byte_from w
  max_ops ← max_ops_from s.version min_inst.1
  default_is_stmt ← byte_from max_ops.1
  line_base ← byte_from default_is_stmt.1
  line_range ← divisor_from line_base.1
  opcode_base ← divisor_from line_range.1
  Ok (
    record {
      order = s.order;
      address_size = address_size s.address;
      min_inst = min_inst.0;
      max_ops = max_ops.0;
      line_base = cast_signed w8 line_base.0;
      line_range = line_range.0;
      opcode_base = opcode_base.0;
    },
    opcode_base.1,
  )

-- The numbers that the instructions divide by aren't 0 (DWARF 2 to 5, section 6.2.4).
pub record IsUsable (s : LineEncoding) : Type 0 where
  pub ops : 0 < s.max_ops
  pub range : 0 < s.line_range

-- The number of operands of each standard opcode (DWARF 2 to 5, section 6.2.4).
unfoldable pub lengths_from : ℕ → Window → Reading (List ℕ)
lengths_from count w = contents_from count w >>= λ lengths. Ok (lengths.0.bytes, lengths.1)

-- Each standard opcode has a number of operands (DWARF 2 to 5, section 6.2.4).
abbrev pub HasLengths : LineEncoding → List ℕ → Type 0
HasLengths s lengths = s.opcode_base ≤ length lengths + 1

-- A table, in the format of the version (DWARF 2 to 5, section 6.2.4).
unfoldable pub table_from : Sections → UnitShape → TableKind → Window → Reading (List Entry)
table_from sections s kind w = if nat_lt s.version 5 then plain_table kind w else formatted_table sections s w

-- A line program: its version, the parameters of its header, the number of operands of each standard opcode,
-- its directories, its files, and the window at its first instruction (DWARF 2 to 5, section 6.2.4).
pub record LineHeader : Type 0 where
  pub version : ℕ
  pub encoding : LineEncoding
  pub lengths : List ℕ
  pub directories : List Entry
  pub files : List Entry
  pub instructions : Window

-- The header after its version (DWARF 2 to 5, section 6.2.4).
unfoldable pub header_from : Sections → UnitShape → Window → Result LineHeader BadFile
header_from sections s w = do
  instructions ← instructions_from s w
  encoding ← encoding_from s instructions.1
  lengths ← lengths_from (encoding.0.opcode_base - 1) encoding.1
  directories ← table_from sections s Directories lengths.1
  files ← table_from sections s Files directories.1
  Ok (record {
    version = s.version;
    encoding = encoding.0;
    lengths = lengths.0;
    directories = directories.0;
    files = files.0;
    instructions = instructions.0;
  })

-- The entry with this number. Numbers begin at 1 before DWARF 5, and at 0 from DWARF 5 on (DWARF 5, section 6.2.4).
abbrev pub entry_numbered : ℕ → List Entry → ℕ → Option Entry
entry_numbered version entries n =
    if nat_lt version 5 then (if n == 0 then None else slice_get entries (n - 1))
    else slice_get entries n
