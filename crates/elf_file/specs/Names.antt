-- The names of sections.
use Rattle.std.specs.Prelude.{ℕ, ◌==◌, ◌||◌, ◌&&◌, not, Bool, List, [], Option, unwrap_or, if◌then◌else◌, ◌-◌}
use Rattle.std.specs.Str.{bytes_eq}
use Rattle.size_core.specs.Gather.{first_from}
use Rattle.byte_cursor.specs.Numbers.{text}
use Rattle.elf_file.specs.Tables.{name_index, name_offset, section_bytes, section_count, is_null}

-- The name of section i in the section name table, or none if it has no terminating zero byte there
-- (gABI, String Table).
unfoldable pub name_text : List ℕ → ℕ → Option (List ℕ)
name_text file i = text (section_bytes file (name_index file)) (name_offset file i)

-- Section i has no name: it is no section, or there is no section name table (gABI, ELF Header:
-- e_shstrndx).
abbrev pub is_unnamed : List ℕ → ℕ → Bool
is_unnamed file i = is_null file i || name_index file == 0

-- The name of section i, empty if it has none (gABI, Section Header: sh_name).
unfoldable pub name_of : List ℕ → ℕ → List ℕ
name_of file i = if is_unnamed file i then [] else unwrap_or (name_text file i) []

-- Section i is a section, and has this name (gABI, Section Header: sh_name).
abbrev pub has_name : List ℕ → List ℕ → ℕ → Bool
has_name file name i = not (is_null file i) && bytes_eq (name_of file i) name

-- The number of the first section with this name (gABI, Section Header: sh_name).
abbrev pub section_named : List ℕ → List ℕ → Option ℕ
section_named file name = first_from (has_name file name) 1 (section_count file - 1)
