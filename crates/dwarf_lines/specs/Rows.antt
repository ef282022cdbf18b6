-- The rows of a line program.
use Rattle.std.specs.Prelude.{ℕ, List, ◌++◌, map, Result, Ok}
use Rattle.size_core.specs.declared.fault.BadFile.{BadFile}
use Rattle.byte_cursor.specs.Window.{Window}
use Rattle.dwarf_abbrev.specs.Listing.{Listing, last_fault}
use Rattle.dwarf_line_header.specs.declared.encoding.LineEncoding.{LineEncoding}
use Rattle.dwarf_line_header.specs.Header.{LineHeader}
use Rattle.dwarf_lines.specs.declared.instruction.Instruction.{Instruction}
use Rattle.dwarf_lines.specs.declared.registers.Registers.{Registers}
use Rattle.dwarf_lines.specs.declared.registers.LineRow.{LineRow}
use Rattle.dwarf_lines.specs.Instructions.{program}
use Rattle.dwarf_lines.specs.Machine.{run, start}

-- A row, as an item of the list (DWARF 5, section 6.2).
abbrev pub good : LineRow → Result LineRow BadFile
good row = Ok row

-- The rows of a program's instructions, and then its fault (DWARF 5, section 6.2).
unfoldable pub rows_of : LineEncoding → Registers → Listing Instruction → List (Result LineRow BadFile)
rows_of s r p = map good (run s r p.items) ++ last_fault p.end

-- The rows in the rest of a window, from these registers on, and then the fault (DWARF 5, section 6.2).
unfoldable pub to_come : LineEncoding → List ℕ → Registers → Window → List (Result LineRow BadFile)
to_come s lengths r w = rows_of s r (program s lengths w)

-- The rows of a line program, and then its fault. Its instructions are read to their end, and then run (DWARF
-- 5, section 6.2).
abbrev pub line_rows : LineHeader → List (Result LineRow BadFile)
line_rows h = rows_of h.encoding start (program h.encoding h.lengths h.instructions)
