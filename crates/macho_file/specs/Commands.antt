-- The load commands of a Mach-O file (mach-o/loader.h: load_command).
use Rattle.std.specs.Prelude.{ℕ, zero, suc, ◌+◌, ◌*◌, ◌==◌, ◌||◌, ◌&&◌, Bool, List, [], ◌∷◌, nat_le, slice_get, take, drop, unwrap_or, if◌then◌else◌}
use Rattle.std.specs.Option.{option_map}
use Rattle.byte_cursor.specs.declared.encoding.Encoding.{Encoding}
use Rattle.byte_cursor.specs.Encoding.{four, pick}
use Rattle.macho_records.specs.declared.constants.TheConstants.{LC_SEGMENT, LC_SEGMENT_64}
use Rattle.macho_records.specs.declared.layout.TheConstants.{COMMAND_CMD, COMMAND_CMDSIZE, SEGMENT_COMMAND_LEN, SECTION_LEN, SEGMENT_NSECTS, LOAD_COMMAND_LEN}
use Rattle.macho_records.specs.Kinds.{least_by_kind}
use Rattle.macho_records.specs.Layout.{encoding_of, header_len, command_count, commands_end}
use Rattle.macho_file.specs.declared.command.Command.{Command}

-- The command at file offset place (mach-o/loader.h: load_command).
unfoldable pub command_at : List ℕ → ℕ → Command
command_at file place = record {
  place = place;
  kind = four (encoding_of file) file place COMMAND_CMD;
  size = four (encoding_of file) file place COMMAND_CMDSIZE;
}

-- This many commands from file offset place on. Each begins where the one before it ends (mach-o/loader.h:
-- load_command).
unfoldable pub commands_from : List ℕ → ℕ → ℕ → List Command
commands_from file place zero = []
commands_from file place (suc count) = let c = command_at file place in c ∷ commands_from file (place + c.size) count

-- The load commands of the file, which follow the header (mach-o/loader.h: mach_header).
abbrev pub commands : List ℕ → List Command
commands file = commands_from file (header_len file) (command_count file)

-- The command is a segment of either class (mach-o/loader.h: LC_SEGMENT, LC_SEGMENT_64).
abbrev pub is_segment : Command → Bool
is_segment c = c.kind == LC_SEGMENT || c.kind == LC_SEGMENT_64

-- The class of a segment command, which its sections share, and the byte order of the file
-- (mach-o/loader.h: LC_SEGMENT_64).
abbrev pub form_of : Encoding → Command → Encoding
form_of e c = record { wide = c.kind == LC_SEGMENT_64; order = e.order }

-- The size of a segment command in bytes, without its sections (mach-o/loader.h: segment_command,
-- segment_command_64).
abbrev pub segment_len : Encoding → ℕ
segment_len e = pick e SEGMENT_COMMAND_LEN

-- The size of a section header in bytes (mach-o/loader.h: section, section_64).
abbrev pub section_len : Encoding → ℕ
section_len e = pick e SECTION_LEN

-- The number of sections of a segment command (mach-o/loader.h: nsects).
unfoldable pub section_count_of : List ℕ → Command → ℕ
section_count_of file c = four (form_of (encoding_of file) c) file c.place SEGMENT_NSECTS

-- The minimum size of a command in bytes. A segment command includes the headers of its sections
-- (mach-o/loader.h: load_command).
unfoldable pub least_size : List ℕ → Command → ℕ
least_size file c =
    let form = form_of (encoding_of file) c in
    if is_segment c then segment_len form + section_count_of file c * section_len form else least_by_kind c.kind

-- The size of a command is valid: cmd and cmdsize lie among the load commands, and so does all of the
-- command, which has at least its minimum size (mach-o/loader.h: load_command).
unfoldable pub is_whole : List ℕ → Command → Bool
is_whole file c = nat_le (c.place + LOAD_COMMAND_LEN) (commands_end file) && nat_le (least_size file c) c.size && nat_le (c.place + c.size) (commands_end file)

-- The bytes of a command (mach-o/loader.h: cmdsize).
abbrev pub command_bytes : List ℕ → Command → List ℕ
command_bytes file c = take c.size (drop c.place file)

-- The bytes of load command k, and none if there is no such command (mach-o/loader.h: cmdsize).
abbrev pub command_bytes_at : List ℕ → ℕ → List ℕ
command_bytes_at file k = unwrap_or (option_map (command_bytes file) (slice_get (commands file) k)) []
