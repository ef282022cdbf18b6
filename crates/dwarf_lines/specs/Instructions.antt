-- The encoding of the instructions of a line program (DWARF 5, section 6.2.5).
use Rattle.std.specs.Prelude.{ℕ, ◌-◌, ◌==◌, List, slice_index, Result, Ok, nat_le, if◌then◌else◌}
use Rattle.std.specs.Int.{w16}
use Rattle.size_core.specs.declared.fault.BadFile.{BadFile}
use Rattle.size_core.specs.declared.fault.Fault.TheVariants.{BadLine}
use Rattle.size_core.specs.Checks.{◌>>=◌, bad}
use Rattle.byte_cursor.specs.declared.order.Order.{Order}
use Rattle.byte_cursor.specs.Window.{Window, place_of}
use Rattle.dwarf_abbrev.specs.Lengths.{contents_from}
use Rattle.dwarf_abbrev.specs.Listing.{Listing, left, listing, up_to_end}
use Rattle.dwarf_abbrev.specs.Reads.{Reading, address_from, byte_from, num_from, sleb_from, uleb_from}
use Rattle.dwarf_line_header.specs.declared.encoding.LineEncoding.{LineEncoding}
use Rattle.dwarf_line_header.specs.Programs.{bad_lines_at}
use Rattle.dwarf_line_header.specs.Tables.{many_from, passed_over}
use Rattle.dwarf_lines.specs.declared.constants.TheConstants.{EXTENDED_OPCODE, DW_LNS_COPY, DW_LNS_ADVANCE_PC, DW_LNS_ADVANCE_LINE, DW_LNS_SET_FILE, DW_LNS_SET_COLUMN, DW_LNS_NEGATE_STMT, DW_LNS_SET_BASIC_BLOCK, DW_LNS_CONST_ADD_PC, DW_LNS_FIXED_ADVANCE_PC, DW_LNS_SET_PROLOGUE_END, DW_LNS_SET_EPILOGUE_BEGIN, DW_LNS_SET_ISA, DW_LNE_END_SEQUENCE, DW_LNE_SET_ADDRESS}
use Rattle.dwarf_lines.specs.declared.instruction.Instruction.{Instruction}
use Rattle.dwarf_lines.specs.declared.instruction.Instruction.TheVariants.{Special, CopyRow, AdvancePc, AdvanceLine, SetFile, SetColumn, NegateStatement, SetBasicBlock, ConstAddPc, FixedAdvancePc, SetPrologueEnd, SetEpilogueBegin, SetIsa, UnknownStandard, EndSequence, SetAddress, OtherExtended}

-- All bytes that are left, as an address. BadLine unless they are 2, 4 or 8 bytes (DWARF 5, section 6.2.5).
unfoldable pub whole_address : Order → Window → Reading ℕ
whole_address order w =
    if left w == 2 then address_from order 2 w
    else if left w == 4 then address_from order 4 w
    else if left w == 8 then address_from order 8 w
    else bad BadLine (place_of w)

-- An extended instruction in a window of its own: its opcode and its operands (DWARF 5, section 6.2.5).
unfoldable pub extended_in : Order → Window → Result Instruction BadFile
extended_in order w = byte_from w >>= (λ opcode.
    if opcode.0 == DW_LNE_END_SEQUENCE then Ok EndSequence
    else if opcode.0 == DW_LNE_SET_ADDRESS then whole_address order opcode.1 >>= (λ n. Ok (SetAddress n.0))
    else Ok (OtherExtended opcode.0))

-- An extended instruction after its first byte: its size, and then that many bytes (DWARF 5, section 6.2.5).
unfoldable pub extended_from : Order → Window → Reading Instruction
extended_from order w = do
  size ← uleb_from w
  contents ← contents_from size.0 size.1
  instruction ← extended_in order contents.0
  Ok (instruction, contents.1)

-- A read whose value is passed to a function.
abbrev pub made : {X Y : Type 0} → (X → Y) → Reading X → Reading Y
made f read = read >>= λ x. Ok (f x.0, x.1)

-- The instruction of a standard opcode, whose operands follow. An unknown opcode has `count` operands (DWARF 5, section
-- 6.2.5).
unfoldable pub standard_from : Order → ℕ → ℕ → Window → Reading Instruction
standard_from order opcode count w =
    if opcode == DW_LNS_COPY then Ok (CopyRow, w)
    else if opcode == DW_LNS_ADVANCE_PC then made AdvancePc (uleb_from w)
    else if opcode == DW_LNS_ADVANCE_LINE then made AdvanceLine (sleb_from w)
    else if opcode == DW_LNS_SET_FILE then made SetFile (uleb_from w)
    else if opcode == DW_LNS_SET_COLUMN then made SetColumn (uleb_from w)
    else if opcode == DW_LNS_NEGATE_STMT then Ok (NegateStatement, w)
    else if opcode == DW_LNS_SET_BASIC_BLOCK then Ok (SetBasicBlock, w)
    else if opcode == DW_LNS_CONST_ADD_PC then Ok (ConstAddPc, w)
    else if opcode == DW_LNS_FIXED_ADVANCE_PC then made FixedAdvancePc (num_from w16 order w)
    else if opcode == DW_LNS_SET_PROLOGUE_END then Ok (SetPrologueEnd, w)
    else if opcode == DW_LNS_SET_EPILOGUE_BEGIN then Ok (SetEpilogueBegin, w)
    else if opcode == DW_LNS_SET_ISA then made SetIsa (uleb_from w)
    else made (λ u. UnknownStandard opcode) (passed_over (many_from uleb_from count w))

-- The instruction of an opcode, whose operands follow. The header has the number of operands of each standard opcode
-- (DWARF 5, section 6.2.5).
unfoldable pub operands_from : LineEncoding → List ℕ → ℕ → Window → Reading Instruction
operands_from s lengths opcode w =
    if nat_le s.opcode_base opcode then Ok (Special (opcode - s.opcode_base), w)
    else if opcode == EXTENDED_OPCODE then extended_from s.order w
    else standard_from s.order opcode (slice_index lengths (opcode - 1)) w

-- An opcode and its operands (DWARF 5, section 6.2.5).
abbrev pub opcode_and_operands : LineEncoding → List ℕ → Window → Reading Instruction
opcode_and_operands s lengths w = do
  opcode ← byte_from w
  operands_from s lengths opcode.0 opcode.1

-- An instruction. BadLine at its file offset if it can't be read (DWARF 5, section 6.2.5).
unfoldable pub instruction_from : LineEncoding → List ℕ → Window → Reading Instruction
instruction_from s lengths w = bad_lines_at (place_of w) (opcode_and_operands s lengths w)

-- The instructions of a window up to the first that can't be read, and its fault or the window at the end (DWARF 5,
-- section 6.2.5).
abbrev pub program : LineEncoding → List ℕ → Window → Listing Instruction
program s lengths w = listing (up_to_end (instruction_from s lengths)) w
