-- The state machine of a line program (DWARF 5, section 6.2).
use Rattle.std.specs.Prelude.{ℕ, ℤ, pos, ◌+ℤ◌, ◌+◌, ◌-◌, ◌*◌, ◌/◌, ◌%◌, ◌^◌, Bool, true, false, List, [], ◌∷◌, ◌++◌, Option, Some, None, option_to_list, unsigned_abs}
use Rattle.std.specs.Int.{int_rem_euclid}
use Rattle.dwarf_line_header.specs.declared.encoding.LineEncoding.{LineEncoding}
use Rattle.dwarf_line_header.specs.declared.encoding.AddressSize.{AddressSize}
use Rattle.dwarf_line_header.specs.declared.encoding.AddressSize.TheVariants.{Two, Four, Eight}
use Rattle.dwarf_lines.specs.declared.registers.Registers.{Registers}
use Rattle.dwarf_lines.specs.declared.registers.LineRow.{LineRow}
use Rattle.dwarf_lines.specs.declared.instruction.Instruction.{Instruction}
use Rattle.dwarf_lines.specs.declared.instruction.Instruction.TheVariants.{Special, CopyRow, AdvancePc, AdvanceLine, SetFile, SetColumn, NegateStatement, SetBasicBlock, ConstAddPc, FixedAdvancePc, SetPrologueEnd, SetEpilogueBegin, SetIsa, UnknownStandard, EndSequence, SetAddress, OtherExtended}

-- The number of addresses of a size (DWARF 5, sections 6.2.2 and 6.2.5).
abbrev pub address_count : AddressSize → ℕ
address_count Two = 2 ^ 16
address_count Four = 2 ^ 32
address_count Eight = 2 ^ 64

-- The registers at the start of a sequence (DWARF 5, sections 6.2.2 and 6.2.5).
abbrev pub start : Registers
start = record { address = 0; op_index = 0; file = 1; line = 1 }

-- The address by units further on. It wraps (DWARF 5, sections 6.2.2 and 6.2.5).
abbrev pub address_plus : LineEncoding → ℕ → ℕ → ℕ
address_plus s address by = (address + by) % address_count s.address_size

-- The line by lines further on. It wraps (DWARF 5, sections 6.2.2 and 6.2.5).
abbrev pub line_plus : ℕ → ℤ → ℕ
line_plus line by = unsigned_abs (int_rem_euclid (pos line +ℤ by) (pos (2 ^ 32)))

-- The registers advanced by this many operations (DWARF 5, sections 6.2.2 and 6.2.5).
unfoldable pub advance : LineEncoding → Registers → ℕ → Registers
advance s r by = record r {
  address = address_plus s r.address (s.min_inst * ((r.op_index + by) / s.max_ops));
  op_index = (r.op_index + by) % s.max_ops;
}

-- The line increment of a special opcode (DWARF 5, sections 6.2.2 and 6.2.5).
abbrev pub line_step : LineEncoding → ℕ → ℤ
line_step s adj = s.line_base +ℤ pos (adj % s.line_range)

-- The registers after an instruction (DWARF 5, sections 6.2.2 and 6.2.5).
unfoldable pub after : LineEncoding → Registers → Instruction → Registers
after s r (Special adj) = record (advance s r (adj / s.line_range)) { line = line_plus r.line (line_step s adj) }
after s r CopyRow = r
after s r (AdvancePc n) = advance s r n
after s r (AdvanceLine n) = record r { line = line_plus r.line n }
after s r (SetFile n) = record r { file = n }
after s r ConstAddPc = advance s r ((255 - s.opcode_base) / s.line_range)
after s r (FixedAdvancePc n) = record r { address = address_plus s r.address n; op_index = 0 }
after s r EndSequence = start
after s r (SetAddress n) = record r { address = n % address_count s.address_size; op_index = 0 }
after s r (SetColumn n) = r
after s r NegateStatement = r
after s r SetBasicBlock = r
after s r SetPrologueEnd = r
after s r SetEpilogueBegin = r
after s r (SetIsa n) = r
after s r (UnknownStandard opcode) = r
after s r (OtherExtended opcode) = r

-- The row that the registers describe (DWARF 5, sections 6.2.2 and 6.2.5).
abbrev pub row : Registers → Bool → LineRow
row r end = record { address = r.address; file = r.file; line = r.line; end = end }

-- The row that an instruction emits, if it emits one (DWARF 5, sections 6.2.2 and 6.2.5).
unfoldable pub row_of : LineEncoding → Registers → Instruction → Option LineRow
row_of s r (Special adj) = Some (row (after s r (Special adj)) false)
row_of s r CopyRow = Some (row r false)
row_of s r (AdvancePc n) = None
row_of s r (AdvanceLine n) = None
row_of s r (SetFile n) = None
row_of s r ConstAddPc = None
row_of s r (FixedAdvancePc n) = None
row_of s r EndSequence = Some (row r true)
row_of s r (SetAddress n) = None
row_of s r (SetColumn n) = None
row_of s r NegateStatement = None
row_of s r SetBasicBlock = None
row_of s r SetPrologueEnd = None
row_of s r SetEpilogueBegin = None
row_of s r (SetIsa n) = None
row_of s r (UnknownStandard opcode) = None
row_of s r (OtherExtended opcode) = None

-- The rows that instructions emit (DWARF 5, sections 6.2.2 and 6.2.5).
unfoldable pub run : LineEncoding → Registers → List Instruction → List LineRow
run s r [] = []
run s r (i ∷ is) = option_to_list (row_of s r i) ++ run s (after s r i) is
