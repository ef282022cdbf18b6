-- A line program is read instruction by instruction, up to the end of its bytes.
use Rattle.std.specs.Prelude.{◌≡◌, ◌<◌, ◌≤◌, ℕ, List, [], ◌∷◌, length, Ok, Err}
use Rattle.size_core.specs.declared.fault.BadFile.{BadFile}
use Rattle.size_core.specs.declared.fault.Fault.TheVariants.{BadLine}
use Rattle.size_core.specs.Checks.{bad}
use Rattle.byte_cursor.specs.Window.{Window, place_of}
use Rattle.dwarf_line_header.specs.declared.encoding.LineEncoding.{LineEncoding}
use Rattle.dwarf_lines.specs.declared.instruction.Instruction.{Instruction}
use Rattle.dwarf_lines.specs.Instructions.{instruction_from, program}

-- A program is its first instruction and then the program in the window after it.
abbrev pub GoesOn : Type 0
GoesOn = (s : LineEncoding) (lengths : List ℕ) (w next : Window) (i : Instruction) → w.at < length w.bytes → instruction_from s lengths w ≡ Ok (i, next)
    → program s lengths w ≡ record { items = i ∷ (program s lengths next).items; end = (program s lengths next).end }

-- An instruction that can't be read is the fault: BadLine at its file offset.
abbrev pub StopsAtFault : Type 0
StopsAtFault = (s : LineEncoding) (lengths : List ℕ) (w : Window) (e : BadFile) → w.at < length w.bytes → instruction_from s lengths w ≡ Err e
    → program s lengths w ≡ record { items = []; end = bad BadLine (place_of w) }

-- Nothing follows at the end of the bytes.
abbrev pub StopsAtEnd : Type 0
StopsAtEnd = (s : LineEncoding) (lengths : List ℕ) (w : Window) → length w.bytes ≤ w.at → program s lengths w ≡ record { items = []; end = Ok w }
