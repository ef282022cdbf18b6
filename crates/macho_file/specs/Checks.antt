-- The checks of a Mach-O file, in order.
use Rattle.std.specs.Prelude.{ℕ, ◌+◌, ◌^◌, ◌==◌, ◌||◌, not, List, [], ◌∷◌, ◌++◌, length, map, Result, nat_le, if◌then◌else◌}
use Rattle.std.specs.List.{flat_map}
use Rattle.size_core.specs.declared.fault.BadFile.{BadFile}
use Rattle.size_core.specs.declared.fault.Fault.TheVariants.{SectionPastEnd, RangeOverflow, BadCommand}
use Rattle.size_core.specs.Checks.{◌>>◌, Check, demand}
use Rattle.macho_records.specs.Header.{checked, header_checks}
use Rattle.macho_file.specs.declared.command.Command.{Command}
use Rattle.macho_file.specs.Commands.{commands, is_segment, is_whole}
use Rattle.macho_file.specs.Tables.{SectionRecord, segment_at, sections_of}

-- The check that the addresses of a section end by 2^64, and that its bytes lie in the file
-- (mach-o/loader.h: section, section_64).
unfoldable pub section_fits : List ℕ → SectionRecord → Check
section_fits file s = do
  demand (nat_le (s.addr + s.size) (2 ^ 64)) RangeOverflow s.place
  demand (not s.in_file || s.size == 0 || nat_le (s.offset + s.size) (length file)) SectionPastEnd s.place

-- The checks of a segment: its addresses end by 2^64, and each of its sections passes its check
-- (mach-o/loader.h: segment_command, segment_command_64).
unfoldable pub segment_checks : List ℕ → Command → List Check
segment_checks file c = let s = segment_at file c 0 in
    demand (nat_le (s.vaddr + s.memsz) (2 ^ 64)) RangeOverflow c.place ∷ map (section_fits file) (sections_of file c)

-- The checks of a command: its size is valid, and if it is a segment, it passes the checks of one
-- (mach-o/loader.h: load_command).
unfoldable pub command_checks : List ℕ → Command → List Check
command_checks file c =
    demand (is_whole file c) BadCommand c.place ∷ (if is_segment c then segment_checks file c else [])

-- All checks of a Mach-O file: those of the header and of each command.
unfoldable pub macho_checks : List ℕ → List Check
macho_checks file = header_checks file ++ flat_map (command_checks file) (commands file)

-- The file, or its first fault.
abbrev pub opened : List ℕ → Result (List ℕ) BadFile
opened file = checked (macho_checks file) file
