-- A line program, one instruction after another.
use Rattle.std.proofs.Common.{◌≡◌, ℕ, zero, suc, ◌-◌, ◌<◌, ◌≤◌, ◌==◌, List, [], ◌∷◌, ◌++◌, length, Option, Some, None, Ok, Err, refl, sym, ap, ◌∙◌, arith}
use Rattle.std.specs.Prelude.{map, nat_le, option_to_list, slice_index}
use Rattle.std.specs.Int.{w16}
use Rattle.size_core.specs.declared.fault.BadFile.{BadFile}
use Rattle.size_core.specs.declared.fault.Fault.TheVariants.{BadLine}
use Rattle.size_core.specs.Checks.{bad}
use Rattle.byte_cursor.specs.declared.order.Order.{Order}
use Rattle.byte_cursor.specs.Window.{Window, place_of}
use Rattle.dwarf_abbrev.specs.Lengths.{contents_from}
use Rattle.dwarf_abbrev.specs.Listing.{Listing, last_fault, left}
use Rattle.dwarf_abbrev.specs.Reads.{Reading, byte_from, num_from, sleb_from, uleb_from}
use Rattle.dwarf_abbrev.proofs.Forward.{Below, below_at, bind_below, byte_below, contents_below, if_below, num_below, read_below, sleb_below, uleb_below, weaker}
use Rattle.dwarf_abbrev.proofs.Records.{all_bad, all_done, all_more}
use Rattle.dwarf_line_header.specs.declared.encoding.LineEncoding.{LineEncoding}
use Rattle.dwarf_line_header.specs.Programs.{bad_lines_at}
use Rattle.dwarf_line_header.specs.Tables.{before, many_from, passed_over}
use Rattle.dwarf_lines.specs.declared.constants.TheConstants.{EXTENDED_OPCODE, DW_LNS_COPY, DW_LNS_ADVANCE_PC, DW_LNS_ADVANCE_LINE, DW_LNS_SET_FILE, DW_LNS_SET_COLUMN, DW_LNS_NEGATE_STMT, DW_LNS_SET_BASIC_BLOCK, DW_LNS_CONST_ADD_PC, DW_LNS_FIXED_ADVANCE_PC, DW_LNS_SET_PROLOGUE_END, DW_LNS_SET_EPILOGUE_BEGIN, DW_LNS_SET_ISA}
use Rattle.dwarf_lines.specs.declared.instruction.Instruction.{Instruction}
use Rattle.dwarf_lines.specs.declared.instruction.Instruction.TheVariants.{Special, CopyRow, AdvancePc, AdvanceLine, SetFile, SetColumn, NegateStatement, SetBasicBlock, ConstAddPc, FixedAdvancePc, SetPrologueEnd, SetEpilogueBegin, SetIsa, UnknownStandard}
use Rattle.dwarf_lines.specs.declared.registers.Registers.{Registers}
use Rattle.dwarf_lines.specs.declared.registers.LineRow.{LineRow}
use Rattle.dwarf_lines.specs.Instructions.{extended_in, extended_from, made, standard_from, operands_from, opcode_and_operands, instruction_from, program}
use Rattle.dwarf_lines.specs.Machine.{run, row_of, after}
use Rattle.dwarf_lines.specs.Rows.{good, rows_of, to_come}

-- Operands may take no bytes.
extended_below : (order : Order) (w : Window) → Below (suc (left w)) (extended_from order w)
unfolding extended_from
extended_below order w = bind_below (left w) (suc (left w)) (uleb_from w) _ (uleb_below w) (λ size less.
    bind_below (suc (left size.1)) (suc (left w)) (contents_from size.0 size.1) _ (contents_below size.0 size.1) (λ contents fewer.
    read_below (suc (left w)) (extended_in order contents.0) contents.1 (omega arith)))

before_below : {X : Type 0} (n : ℕ) (x : X) (r : Reading (List X)) → Below n r → Below n (before x r)
before_below n x (Ok xs) h = h
before_below n x (Err e) h = tt

numbers_below : (count : ℕ) (w : Window) → Below (suc (left w)) (many_from uleb_from count w)
unfolding many_from
numbers_below zero w = omega arith
numbers_below (suc count) w = bind_below (left w) (suc (left w)) (uleb_from w) _ (uleb_below w) (λ x less.
    before_below (suc (left w)) x.0 (many_from uleb_from count x.1) (weaker (suc (left x.1)) (suc (left w)) (many_from uleb_from count x.1) (omega arith) (numbers_below count x.1)))

passed_below : {X : Type 0} (n : ℕ) (r : Reading X) → Below n r → Below n (passed_over r)
unfolding passed_over
passed_below n (Ok x) h = h
passed_below n (Err e) h = tt

made_below : {X Y : Type 0} (f : X → Y) (m n : ℕ) (r : Reading X) → m ≤ n → Below m r → Below n (made f r)
made_below f m n (Ok x) le h = let lt : left x.1 < m = h in omega arith
made_below f m n (Err e) le h = tt

standard_below : (order : Order) (opcode count : ℕ) (w : Window) → Below (suc (left w)) (standard_from order opcode count w)
unfolding standard_from
standard_below order opcode count w =
    if_below (suc (left w)) (opcode == DW_LNS_COPY) (Ok (CopyRow, w)) _ (none CopyRow) (
    if_below (suc (left w)) (opcode == DW_LNS_ADVANCE_PC) (made AdvancePc (uleb_from w)) _ (number AdvancePc) (
    if_below (suc (left w)) (opcode == DW_LNS_ADVANCE_LINE) (made AdvanceLine (sleb_from w)) _ (made_below AdvanceLine (left w) (suc (left w)) (sleb_from w) (omega arith) (sleb_below w)) (
    if_below (suc (left w)) (opcode == DW_LNS_SET_FILE) (made SetFile (uleb_from w)) _ (number SetFile) (
    if_below (suc (left w)) (opcode == DW_LNS_SET_COLUMN) (made SetColumn (uleb_from w)) _ (number SetColumn) (
    if_below (suc (left w)) (opcode == DW_LNS_NEGATE_STMT) (Ok (NegateStatement, w)) _ (none NegateStatement) (
    if_below (suc (left w)) (opcode == DW_LNS_SET_BASIC_BLOCK) (Ok (SetBasicBlock, w)) _ (none SetBasicBlock) (
    if_below (suc (left w)) (opcode == DW_LNS_CONST_ADD_PC) (Ok (ConstAddPc, w)) _ (none ConstAddPc) (
    if_below (suc (left w)) (opcode == DW_LNS_FIXED_ADVANCE_PC) (made FixedAdvancePc (num_from w16 order w)) _ (made_below FixedAdvancePc (left w) (suc (left w)) (num_from w16 order w) (omega arith) (num_below w16 order w (omega arith))) (
    if_below (suc (left w)) (opcode == DW_LNS_SET_PROLOGUE_END) (Ok (SetPrologueEnd, w)) _ (none SetPrologueEnd) (
    if_below (suc (left w)) (opcode == DW_LNS_SET_EPILOGUE_BEGIN) (Ok (SetEpilogueBegin, w)) _ (none SetEpilogueBegin) (
    if_below (suc (left w)) (opcode == DW_LNS_SET_ISA) (made SetIsa (uleb_from w)) _ (number SetIsa)
    (made_below (λ u. UnknownStandard opcode) (suc (left w)) (suc (left w)) (passed_over (many_from uleb_from count w)) (omega arith) (passed_below (suc (left w)) (many_from uleb_from count w) (numbers_below count w))))))))))))))
  where
    none : (i : Instruction) → left w < suc (left w)
    none i = omega arith

    number : (f : ℕ → Instruction) → Below (suc (left w)) (made f (uleb_from w))
    number f = made_below f (left w) (suc (left w)) (uleb_from w) (omega arith) (uleb_below w)

operands_below : (s : LineEncoding) (lengths : List ℕ) (opcode : ℕ) (w : Window) → Below (suc (left w)) (operands_from s lengths opcode w)
unfolding operands_from
operands_below s lengths opcode w = if_below (suc (left w)) (nat_le s.opcode_base opcode) (Ok (Special (opcode - s.opcode_base), w)) _ (omega arith)
    (if_below (suc (left w)) (opcode == EXTENDED_OPCODE) (extended_from s.order w) _ (extended_below s.order w) (standard_below s.order opcode (slice_index lengths (opcode - 1)) w))

lines_below : {X : Type 0} (n place : ℕ) (r : Reading X) → Below n r → Below n (bad_lines_at place r)
lines_below n place (Ok x) h = h
lines_below n place (Err e) h = tt

-- An instruction takes at least one byte.
instruction_below : (s : LineEncoding) (lengths : List ℕ) (w : Window) → Below (left w) (instruction_from s lengths w)
unfolding instruction_from
instruction_below s lengths w = lines_below (left w) (place_of w) (opcode_and_operands s lengths w) (bind_below (left w) (left w) (byte_from w) _ (byte_below w) (λ opcode less.
    weaker (suc (left opcode.1)) (left w) (operands_from s lengths opcode.0 opcode.1) (omega arith) (operands_below s lengths opcode.0 opcode.1)))

pub instruction_less : (s : LineEncoding) (lengths : List ℕ) (w next : Window) (i : Instruction) → instruction_from s lengths w ≡ Ok (i, next) → left next < left w
instruction_less s lengths w next i is = below_at (left w) (instruction_from s lengths w) i next (instruction_below s lengths w) is

-- Each fault of an instruction is BadLine at its file offset.
fault_is : (s : LineEncoding) (lengths : List ℕ) (w : Window) (e : BadFile) → instruction_from s lengths w ≡ Err e → e ≡ record { fault = BadLine; offset = place_of w }
unfolding instruction_from
fault_is s lengths w e is = by_reading (opcode_and_operands s lengths w) is
  where
    by_reading : (r : Reading Instruction) → bad_lines_at (place_of w) r ≡ Err e → e ≡ record { fault = BadLine; offset = place_of w }
    by_reading (Ok x) h = cc
    by_reading (Err d) h = cc

abbrev stopped : BadFile → Listing Instruction
stopped e = record { items = []; end = Err e }

-- A program is its first instruction and then the rest. It ends with a fault, or at the end of the window.
pub program_more : (s : LineEncoding) (lengths : List ℕ) (w next : Window) (i : Instruction) → w.at < length w.bytes → instruction_from s lengths w ≡ Ok (i, next)
    → program s lengths w ≡ record { items = i ∷ (program s lengths next).items; end = (program s lengths next).end }
program_more s lengths w next i lt is = all_more (instruction_from s lengths) (instruction_below s lengths) w next i lt is

pub program_bad : (s : LineEncoding) (lengths : List ℕ) (w : Window) (e : BadFile) → w.at < length w.bytes → instruction_from s lengths w ≡ Err e → program s lengths w ≡ record { items = []; end = bad BadLine (place_of w) }
program_bad s lengths w e lt is = all_bad (instruction_from s lengths) (instruction_below s lengths) w e lt is ∙ ap stopped (fault_is s lengths w e is)

pub program_end : (s : LineEncoding) (lengths : List ℕ) (w : Window) → length w.bytes ≤ w.at → program s lengths w ≡ record { items = []; end = Ok w }
program_end s lengths w past = all_done (instruction_from s lengths) (instruction_below s lengths) w past

-- Nothing follows at the end of the bytes.
pub comes_none : (s : LineEncoding) (lengths : List ℕ) (r : Registers) (w : Window) → length w.bytes ≤ w.at → to_come s lengths r w ≡ []
unfolding to_come rows_of run
comes_none s lengths r w past = rw (program_end s lengths w past) refl

-- The fault is the last item.
pub comes_fault : (s : LineEncoding) (lengths : List ℕ) (r : Registers) (w : Window) (e : BadFile) → w.at < length w.bytes → instruction_from s lengths w ≡ Err e → to_come s lengths r w ≡ Err e ∷ []
unfolding to_come rows_of run
comes_fault s lengths r w e lt is = rw (all_bad (instruction_from s lengths) (instruction_below s lengths) w e lt is) refl

by_row : (s : LineEncoding) (r : Registers) (i : Instruction) (p : Listing Instruction) (row : Option LineRow)
    → map good (option_to_list row ++ run s (after s r i) p.items) ++ last_fault p.end
    ≡ map good (option_to_list row) ++ (map good (run s (after s r i) p.items) ++ last_fault p.end)
by_row s r i p None = refl
by_row s r i p (Some x) = refl

-- An instruction's row comes first, and then what follows the instruction.
comes_next : (s : LineEncoding) (lengths : List ℕ) (r : Registers) (w next : Window) (i : Instruction) → w.at < length w.bytes → instruction_from s lengths w ≡ Ok (i, next)
    → to_come s lengths r w ≡ map good (option_to_list (row_of s r i)) ++ to_come s lengths (after s r i) next
unfolding to_come rows_of run
comes_next s lengths r w next i lt is = rw (program_more s lengths w next i lt is) (by_row s r i (program s lengths next) (row_of s r i))

pub comes_row : (s : LineEncoding) (lengths : List ℕ) (r : Registers) (w next : Window) (i : Instruction) (row : LineRow) → w.at < length w.bytes → instruction_from s lengths w ≡ Ok (i, next) → Some row ≡ row_of s r i
    → to_come s lengths r w ≡ Ok row ∷ to_come s lengths (after s r i) next
comes_row s lengths r w next i row lt h is = comes_next s lengths r w next i lt h ∙ ap (λ (o : Option LineRow). map good (option_to_list o) ++ to_come s lengths (after s r i) next) (sym is)

pub comes_same : (s : LineEncoding) (lengths : List ℕ) (r : Registers) (w next : Window) (i : Instruction) → w.at < length w.bytes → instruction_from s lengths w ≡ Ok (i, next) → None ≡ row_of s r i
    → to_come s lengths r w ≡ to_come s lengths (after s r i) next
comes_same s lengths r w next i lt h is = comes_next s lengths r w next i lt h ∙ ap (λ (o : Option LineRow). map good (option_to_list o) ++ to_come s lengths (after s r i) next) (sym is)
