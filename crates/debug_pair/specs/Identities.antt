-- The identifiers that a stripped file and its debug file share.
use Rattle.std.specs.Prelude.{ℕ, ◌+◌, ◌==◌, ◌&&◌, not, Bool, List, [], ◌∷◌, ◌++◌, length, Option, Some, None, nat_lt, take, drop, if◌then◌else◌}
use Rattle.std.specs.List.{find, flat_map}
use Rattle.std.specs.Option.{option_map, option_and_then}
use Rattle.std.specs.Str.{bytes_eq}
use Rattle.size_core.specs.Gather.{gather}
use Rattle.byte_cursor.specs.declared.order.Order.{Order}
use Rattle.elf_file.specs.declared.constants.TheConstants.{SHT_NOTE, PT_NOTE}
use Rattle.elf_file.specs.Layout.{encoding_of}
use Rattle.elf_file.specs.Tables.{section_at, section_bytes, section_count, segment_at, segment_bytes, segment_count}
use Rattle.macho_file.specs.declared.command.Command.{Command}
use Rattle.macho_records.specs.declared.constants.TheConstants.{LC_UUID}
use Rattle.macho_file.specs.Commands.{commands}
use Rattle.debug_pair.specs.declared.constants.TheConstants.{NT_GNU_BUILD_ID}
use Rattle.debug_pair.specs.Notes.{NoteRecord, notes}

-- A build ID note: its name is `GNU` with a zero byte, its type is NT_GNU_BUILD_ID, and its descriptor
-- isn't empty.
unfoldable pub is_build_id : NoteRecord → Bool
is_build_id n = bytes_eq n.name (0x47 ∷ 0x4e ∷ 0x55 ∷ 0x00 ∷ []) && n.kind == NT_GNU_BUILD_ID && not (length n.content == 0)

-- The descriptor of the first build ID note in these areas.
unfoldable pub build_id : Order → List (List ℕ) → Option (List ℕ)
build_id order areas = option_map (λ n. n.content) (find is_build_id (flat_map (notes order) areas))

-- The area of notes in section i, and none if the section has another type (gABI, Sections: SHT_NOTE).
unfoldable pub section_area : List ℕ → ℕ → List (List ℕ)
section_area file i = if (section_at file i).kind == SHT_NOTE then section_bytes file i ∷ [] else []

-- The area of notes in segment i, and none if the segment has another type (gABI, Program Header:
-- PT_NOTE).
unfoldable pub segment_area : List ℕ → ℕ → List (List ℕ)
segment_area file i = if (segment_at file i).kind == PT_NOTE then segment_bytes file i ∷ [] else []

-- The areas of notes in sections, in file order.
abbrev pub section_areas : List ℕ → List (List ℕ)
section_areas file = gather (section_area file) 0 (section_count file)

-- The areas of notes in segments, in file order.
abbrev pub segment_areas : List ℕ → List (List ℕ)
segment_areas file = gather (segment_area file) 0 (segment_count file)

-- The build ID of an ELF file: the first in the notes of its sections, and then of its segments.
unfoldable pub elf_identity : List ℕ → Option (List ℕ)
elf_identity file = build_id (encoding_of file).order (section_areas file ++ segment_areas file)

-- The UUID in a command: the 16 bytes after cmd and cmdsize, if the command is long enough
-- (mach-o/loader.h: uuid_command).
abbrev pub uuid_of : List ℕ → Command → Option (List ℕ)
uuid_of file c = if nat_lt c.size 24 then None else Some (take 16 (drop (c.place + 8) file))

-- The first LC_UUID command (mach-o/loader.h: uuid_command).
unfoldable pub first_uuid : List Command → Option Command
first_uuid cs = find (λ c. c.kind == LC_UUID) cs

-- The UUID of a Mach-O file: that of its first LC_UUID command (mach-o/loader.h: uuid_command).
unfoldable pub macho_identity : List ℕ → Option (List ℕ)
macho_identity file = option_and_then (uuid_of file) (first_uuid (commands file))
