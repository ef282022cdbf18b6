-- Line programs (DWARF 5, section 6.2).
use Rattle.std.specs.Prelude.{ℕ, pos, [], Option, Some, None, Result, Ok, Err, Bool, if◌then◌else◌}
use Rattle.std.specs.Int.{w16}
use Rattle.size_core.specs.declared.fault.BadFile.{BadFile}
use Rattle.size_core.specs.declared.fault.Fault.TheVariants.{BadLine, OffsetOutside}
use Rattle.size_core.specs.Checks.{◌>>=◌, bad}
use Rattle.byte_cursor.specs.Window.{Window, place_of}
use Rattle.dwarf_abbrev.specs.declared.shape.UnitShape.{UnitShape}
use Rattle.dwarf_abbrev.specs.Lengths.{contents_from, initial_length_from}
use Rattle.dwarf_abbrev.specs.Reads.{Reading, inside, num_from}
use Rattle.dwarf_abbrev.specs.Shapes.{is_version}
use Rattle.dwarf_line_header.specs.Header.{LineHeader, address_size, header_from}
use Rattle.dwarf_units.specs.declared.sections.Sections.{Sections}

-- A program that isn't supported: it has no rows, no directories and no files (DWARF 5, sections 6.2.4 and
-- 7.4).
abbrev pub empty_program : UnitShape → LineHeader
empty_program s = record {
  version = s.version;
  encoding = record { order = s.order; address_size = address_size s.address; min_inst = 1; max_ops = 1; line_base = pos 0; line_range = 1; opcode_base = 1 };
  lengths = [];
  directories = [];
  files = [];
  instructions = record { base = 0; bytes = []; at = 0 };
}

-- The version that was read, and the window after it. There is none if it isn't complete or isn't supported (DWARF 5,
-- sections 6.2.4 and 7.4).
abbrev pub known : Reading ℕ → Option (ℕ × Window)
known (Ok version) = if is_version version.0 then Some version else None
known (Err e) = None

-- A read whose faults are all BadLine at the file offset `place` (DWARF 5, sections 6.2.4 and 7.4).
abbrev pub bad_lines_at : {X : Type 0} → ℕ → Result X BadFile → Result X BadFile
bad_lines_at place (Ok x) = Ok x
bad_lines_at place (Err e) = bad BadLine place

-- A program of a version. The encoding of its values depends on the version and the offset size of the program,
-- and on the address size of the unit (DWARF 5, sections 6.2.4 and 7.4).
abbrev pub header_by : Sections → UnitShape → ℕ → Bool → Option (ℕ × Window) → Result LineHeader BadFile
header_by sections s place wide None = Ok (empty_program s)
header_by sections s place wide (Some version) =
    bad_lines_at place (header_from sections (record { version = version.0; wide = wide; address = s.address; order = s.order }) version.1)

-- The program with these contents (DWARF 5, sections 6.2.4 and 7.4).
abbrev pub program_of : Sections → UnitShape → ℕ → Bool → Window → Result LineHeader BadFile
program_of sections s place wide contents = header_by sections s place wide (known (num_from w16 s.order contents))

-- The program at the start of a window. Its contents follow its length (DWARF 5, sections 6.2.4 and 7.4).
unfoldable pub program_here : Sections → UnitShape → Window → Result LineHeader BadFile
program_here sections s w = do
  initial ← initial_length_from s.order w
  contents ← contents_from initial.0.len initial.1
  program_of sections s (place_of w) initial.0.wide contents.0

-- The program in this window of the section; OffsetOutside if there is none (DWARF 5, sections 6.2.4 and
-- 7.4).
abbrev pub program_in : Sections → UnitShape → ℕ → Option Window → Result LineHeader BadFile
program_in sections s place None = bad OffsetOutside place
program_in sections s place (Some w) = program_here sections s w

-- The program at an offset of `.debug_line`. If the offset is outside the section, the fault has the file
-- offset `place` (DWARF 5, sections 6.2.4 and 7.4).
abbrev pub program_at : Sections → ℕ → ℕ → UnitShape → Result LineHeader BadFile
program_at sections offset place s = program_in sections s place (inside sections.lines offset)
