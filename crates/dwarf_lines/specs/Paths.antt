-- The path of a file of a line program.
use Rattle.std.specs.Prelude.{ℕ, ◌==◌, ◌||◌, Bool, List, ◌∷◌, ◌++◌, codes, Option, Some, None, slice_index, if◌then◌else◌}
use Rattle.dwarf_lines.specs.declared.constants.TheConstants.{SLASH}
use Rattle.dwarf_line_header.specs.Header.{LineHeader, entry_numbered}
use Rattle.dwarf_line_header.specs.Tables.{Entry}

-- Whether a name is an absolute path (DWARF 5, section 6.2.4).
abbrev pub is_absolute : List ℕ → Bool
is_absolute name = slice_index name 0 == SLASH

-- A name after its directory and a slash, or the name alone without a directory (DWARF 5, section 6.2.4).
abbrev pub in_directory : Option Entry → List ℕ → List ℕ
in_directory None name = name
in_directory (Some directory) name = directory.name ++ SLASH ∷ name

-- The directory that is printed before a file's name. Directory 0 isn't: it is the one that the program was
-- compiled in (DWARF 5, section 6.2.4).
abbrev pub shown_directory : LineHeader → Entry → Option Entry
shown_directory h file =
    if is_absolute file.name || file.directory == 0 then None
    else entry_numbered h.version h.directories file.directory

-- The path of a file, or `[Unknown file]` if it doesn't exist (DWARF 5, section 6.2.4).
abbrev pub file_path : LineHeader → Option Entry → List ℕ
file_path h None = codes "[Unknown file]"
file_path h (Some file) = in_directory (shown_directory h file) file.name

-- The path of the file with this number (DWARF 5, section 6.2.4).
unfoldable pub path_of : LineHeader → ℕ → List ℕ
path_of h file = file_path h (entry_numbered h.version h.files file)
