-- The header of a Mach-O file, and the fields of records (mach-o/loader.h: mach_header, mach_header_64).
use Rattle.std.specs.Prelude.{ℕ, ◌+◌, ◌==◌, ◌||◌, ◌&&◌, Bool, List, length, take, drop, nat_le, unwrap_or, if◌then◌else◌}
use Rattle.std.specs.Int.{w32}
use Rattle.byte_cursor.specs.declared.order.Order.{Order}
use Rattle.byte_cursor.specs.declared.order.Order.TheVariants.{Little, Big}
use Rattle.byte_cursor.specs.declared.encoding.Encoding.{Encoding}
use Rattle.byte_cursor.specs.Encoding.{four, pick}
use Rattle.byte_cursor.specs.Numbers.{field, text}
use Rattle.macho_records.specs.declared.constants.TheConstants.{MH_MAGIC, MH_MAGIC_64}
use Rattle.macho_records.specs.declared.layout.TheConstants.{MACH_HEADER_LEN, HEADER_FILETYPE, HEADER_NCMDS, HEADER_SIZEOFCMDS, NLIST_LEN}

-- The first four bytes in this byte order are a magic number (mach-o/loader.h: MH_MAGIC, MH_MAGIC_64).
abbrev pub has_magic_in : List ℕ → Order → Bool
has_magic_in file order = field file 0 w32 order == MH_MAGIC || field file 0 w32 order == MH_MAGIC_64

-- The file begins with a magic number in one of the two byte orders (mach-o/loader.h: MH_MAGIC,
-- MH_MAGIC_64).
unfoldable pub has_magic : List ℕ → Bool
has_magic file = nat_le 4 (length file) && (has_magic_in file Little || has_magic_in file Big)

-- The class and the byte order that the magic number gives (mach-o/loader.h: MH_MAGIC, MH_MAGIC_64).
unfoldable pub encoding_of : List ℕ → Encoding
encoding_of file = record {
  wide = field file 0 w32 Little == MH_MAGIC_64 || field file 0 w32 Big == MH_MAGIC_64;
  order = if has_magic_in file Big then Big else Little;
}

-- The name in the 16 bytes at a file offset, without trailing zeros. It ends before the first zero byte, or
-- has 16 bytes (mach-o/loader.h: segname, sectname).
unfoldable pub name_16 : List ℕ → ℕ → List ℕ
name_16 file at = let bytes = take 16 (drop at file) in unwrap_or (text bytes 0) bytes

-- The size of the header in bytes (mach-o/loader.h: mach_header, mach_header_64).
abbrev pub header_len : List ℕ → ℕ
header_len file = pick (encoding_of file) MACH_HEADER_LEN

-- The type of the file (mach-o/loader.h: filetype).
abbrev pub file_type : List ℕ → ℕ
file_type file = four (encoding_of file) file 0 HEADER_FILETYPE

-- The number of load commands (mach-o/loader.h: ncmds).
abbrev pub command_count : List ℕ → ℕ
command_count file = four (encoding_of file) file 0 HEADER_NCMDS

-- The size in bytes of all load commands (mach-o/loader.h: sizeofcmds).
abbrev pub commands_size : List ℕ → ℕ
commands_size file = four (encoding_of file) file 0 HEADER_SIZEOFCMDS

-- The file offset where the load commands end. They follow the header (mach-o/loader.h: sizeofcmds).
abbrev pub commands_end : List ℕ → ℕ
commands_end file = header_len file + commands_size file

-- The size of a symbol in bytes, by the class of the file (mach-o/nlist.h: nlist, nlist_64).
abbrev pub symbol_len : List ℕ → ℕ
symbol_len file = pick (encoding_of file) NLIST_LEN
