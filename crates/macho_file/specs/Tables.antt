-- The segments and sections of a Mach-O file (mach-o/loader.h: segment_command, section).
use Rattle.std.specs.Prelude.{ℕ, zero, suc, ◌+◌, ◌==◌, ◌||◌, ◌&&◌, not, Bool, List, [], ◌∷◌, take, drop, codes, slice_get, unwrap_or, if◌then◌else◌}
use Rattle.std.specs.List.{flat_map}
use Rattle.std.specs.Option.{option_map}
use Rattle.std.specs.Str.{bytes_eq}
use Rattle.byte_cursor.specs.declared.encoding.Encoding.{Encoding}
use Rattle.byte_cursor.specs.Encoding.{four, pick, word}
use Rattle.macho_records.specs.declared.constants.TheConstants.{MH_DSYM}
use Rattle.macho_records.specs.declared.layout.TheConstants.{SEGMENT_SEGNAME, SEGMENT_VMADDR, SEGMENT_VMSIZE, SEGMENT_FILEOFF, SEGMENT_FILESIZE, SEGMENT_MAXPROT, SECTION_SEGNAME, SECTION_OFFSET, SECTION_FLAGS, SECTION_SECTNAME, SECTION_ADDR, SECTION_SIZE}
use Rattle.macho_records.specs.Kinds.{is_zero_filled}
use Rattle.macho_records.specs.Layout.{encoding_of, file_type, name_16}
use Rattle.macho_file.specs.declared.command.Command.{Command}
use Rattle.macho_file.specs.Commands.{commands, is_segment, form_of, segment_len, section_len, section_count_of}

-- A segment (mach-o/loader.h: segment_command, segment_command_64).
pub record SegmentRecord : Type 0 where
  pub place : ℕ
  pub name : List ℕ
  pub vaddr : ℕ
  pub memsz : ℕ
  pub offset : ℕ
  pub filesz : ℕ
  pub maxprot : ℕ
  pub first : ℕ
  pub count : ℕ

-- A section (mach-o/loader.h: section, section_64).
pub record SectionRecord : Type 0 where
  pub place : ℕ
  pub segment : List ℕ
  pub name : List ℕ
  pub addr : ℕ
  pub size : ℕ
  pub offset : ℕ
  pub flags : ℕ
  pub in_file : Bool

-- The segment of a command, whose sections are numbered from first on (mach-o/loader.h: segment_command,
-- segment_command_64).
unfoldable pub segment_at : List ℕ → Command → ℕ → SegmentRecord
segment_at file c first = let form = form_of (encoding_of file) c in record {
  place = c.place;
  name = name_16 file (c.place + pick form SEGMENT_SEGNAME);
  vaddr = word form file c.place SEGMENT_VMADDR;
  memsz = word form file c.place SEGMENT_VMSIZE;
  offset = word form file c.place SEGMENT_FILEOFF;
  filesz = word form file c.place SEGMENT_FILESIZE;
  maxprot = four form file c.place SEGMENT_MAXPROT;
  first = first;
  count = section_count_of file c;
}

-- The bytes of a section are in the file: it isn't zero-filled, its offset isn't 0, and in a companion file
-- of debug information (MH_DSYM) its segment is __DWARF (mach-o/loader.h: section, section_64).
unfoldable pub is_in_file : List ℕ → List ℕ → ℕ → ℕ → Bool
is_in_file file segment offset flags =
    not (is_zero_filled flags) && not (offset == 0) && (not (file_type file == MH_DSYM) || bytes_eq segment (codes "__DWARF"))

-- The section whose header is at file offset place (mach-o/loader.h: section, section_64).
unfoldable pub section_at : List ℕ → Encoding → ℕ → SectionRecord
section_at file form place =
    let segment = name_16 file (place + pick form SECTION_SEGNAME) in
    let offset = four form file place SECTION_OFFSET in
    let flags = four form file place SECTION_FLAGS in record {
      place = place;
      segment = segment;
      name = name_16 file (place + pick form SECTION_SECTNAME);
      addr = word form file place SECTION_ADDR;
      size = word form file place SECTION_SIZE;
      offset = offset;
      flags = flags;
      in_file = is_in_file file segment offset flags;
    }

-- This many sections, whose headers follow one another from file offset place on (mach-o/loader.h: section,
-- section_64).
unfoldable pub sections_from : List ℕ → Encoding → ℕ → ℕ → List SectionRecord
sections_from file form place zero = []
sections_from file form place (suc count) = section_at file form place ∷ sections_from file form (place + section_len form) count

-- The sections of a command, and none if it isn't a segment (mach-o/loader.h: segment_command,
-- segment_command_64).
unfoldable pub sections_of : List ℕ → Command → List SectionRecord
sections_of file c =
    let form = form_of (encoding_of file) c in
    if is_segment c then sections_from file form (c.place + segment_len form) (section_count_of file c) else []

-- The segments of these commands, whose sections are numbered from first on.
abbrev pub segments_from : List ℕ → ℕ → List Command → List SegmentRecord
segments_from file first [] = []
segments_from file first (c ∷ cs) =
    if is_segment c then segment_at file c first ∷ segments_from file (first + section_count_of file c) cs else segments_from file first cs

-- The segments of the file, in file order (mach-o/loader.h: segment_command, segment_command_64).
unfoldable pub segments : List ℕ → List SegmentRecord
segments file = segments_from file 0 (commands file)

-- The sections of all segments, in file order (mach-o/loader.h: section, section_64).
unfoldable pub sections : List ℕ → List SectionRecord
sections file = flat_map (sections_of file) (commands file)

-- The bytes of a section, and none if they aren't in the file.
abbrev pub section_bytes : List ℕ → SectionRecord → List ℕ
section_bytes file s = if s.in_file then take s.size (drop s.offset file) else []

-- The bytes of section k, and none if there is no such section.
abbrev pub section_bytes_at : List ℕ → ℕ → List ℕ
section_bytes_at file k = unwrap_or (option_map (section_bytes file) (slice_get (sections file) k)) []
