-- What a reader knows of a Mach-O file, step by step.
use Rattle.std.specs.Prelude.{◌≡◌, ℕ, ◌+◌, ◌≤◌, Option, None, Some, List, length, map, Result, Ok}
use Rattle.std.specs.List.{flat_map}
use Rattle.size_core.specs.declared.fault.BadFile.{BadFile}
use Rattle.size_core.specs.declared.fault.Fault.TheVariants.{BadCommand}
use Rattle.size_core.specs.Checks.{◌>>◌, Check, demand, first_of}
use Rattle.byte_cursor.specs.declared.encoding.Encoding.{Encoding}
use Rattle.macho_records.specs.declared.layout.TheConstants.{SYMTAB_COMMAND_LEN}
use Rattle.macho_records.specs.Header.{HasHeader}
use Rattle.macho_records.specs.Layout.{header_len, command_count, commands_end}
use Rattle.macho_file.specs.declared.command.Command.{Command}
use Rattle.macho_file.specs.Commands.{commands_from, least_size, is_whole}
use Rattle.macho_file.specs.Tables.{segments, segments_from, sections, sections_from, sections_of}
use Rattle.macho_file.specs.Checks.{command_checks, section_fits}
use Rattle.macho_file.specs.Symbols.{symbol_table}

-- The check that a loop makes of this many sections, whose headers follow one another from file offset
-- place on.
abbrev pub sections_fit : List ℕ → Encoding → ℕ → ℕ → Check
sections_fit file form place count = first_of (map (section_fits file) (sections_from file form place count))

-- The check that a loop makes of this many commands, which follow one another from file offset place on.
abbrev pub commands_fit : List ℕ → ℕ → ℕ → Check
commands_fit file place count = first_of (flat_map (command_checks file) (commands_from file place count))

-- The command, or BadCommand if its size isn't valid.
abbrev pub checked_command : List ℕ → Command → Result Command BadFile
checked_command file c = demand (is_whole file c) BadCommand c.place >> Ok c

-- This many commands from file offset place on passed their checks.
pub record HasCommands (file : List ℕ) (e : Encoding) (place count : ℕ) : Type 0 where
  pub header : HasHeader file e
  pub fit : commands_fit file place count ≡ Ok tt

-- A command has its minimum size, and lies among the load commands and so in the file.
pub record IsInside (file : List ℕ) (c : Command) : Type 0 where
  pub least : least_size file c ≤ c.size
  pub ends : c.place + c.size ≤ commands_end file
  pub within : c.place + c.size ≤ length file

-- If there is a command, it has its minimum size and lies in the file.
abbrev pub IsSomeInside : List ℕ → Option Command → Type 0
IsSomeInside file None = Unit {0}
IsSomeInside file (Some c) = IsInside file c

-- If there is a symtab_command, its fields lie in the file.
abbrev pub IsSomeTable : List ℕ → Option Command → Type 0
IsSomeTable file None = Unit {0}
IsSomeTable file (Some c) = c.place + SYMTAB_COMMAND_LEN ≤ length file

-- The first of two values that exists.
abbrev pub or_else : {X : Type 0} → Option X → Option X → Option X
or_else None y = y
or_else (Some x) y = Some x

-- A file, and the commands that an iterator has not returned yet.
pub record Listing : Type 0 where
  pub file : List ℕ
  pub rest : List Command

-- The two lists of commands have the same segments and sections.
pub record SameSegments (file : List ℕ) (cs ds : List Command) : Type 0 where
  pub segments_are : (first : ℕ) → segments_from file first cs ≡ segments_from file first ds
  pub sections_are : flat_map (sections_of file) cs ≡ flat_map (sections_of file) ds

-- All that is known of an opened file.
pub record IsOpened (file : List ℕ) (e : Encoding) (segment_count section_count : ℕ) (symtab : Option Command) : Type 0 where
  pub commands : HasCommands file e (header_len file) (command_count file)
  pub segments_are : segment_count ≡ length (segments file)
  pub sections_are : section_count ≡ length (sections file)
  pub symtab_is : symtab ≡ symbol_table file
  pub symtab_inside : IsSomeTable file symtab
