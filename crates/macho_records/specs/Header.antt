-- The checks of the header of a Mach-O file, and what is known once they hold (mach-o/loader.h: mach_header,
-- mach_header_64).
use Rattle.std.specs.Prelude.{◌≡◌, ℕ, ◌^◌, ◌≤◌, ◌<◌, List, [], ◌∷◌, length, Result, Ok, nat_le}
use Rattle.size_core.specs.declared.fault.BadFile.{BadFile}
use Rattle.size_core.specs.declared.fault.Fault.TheVariants.{UnknownFormat, Truncated, TablePastEnd}
use Rattle.size_core.specs.Checks.{◌>>◌, Check, demand, first_of}
use Rattle.byte_cursor.specs.declared.encoding.Encoding.{Encoding}
use Rattle.macho_records.specs.Layout.{encoding_of, has_magic, header_len, commands_end}

-- The checks of the header: the file begins with a magic number, the header is complete, and the load
-- commands end in the file (mach-o/loader.h: mach_header, mach_header_64).
unfoldable pub header_checks : List ℕ → List Check
header_checks file =
    demand (has_magic file) UnknownFormat 0
    ∷ demand (nat_le (header_len file) (length file)) Truncated 0
    ∷ demand (nat_le (commands_end file) (length file)) TablePastEnd (header_len file)
    ∷ []

-- The value if the checks hold, or the first fault.
abbrev pub checked : {X : Type 0} → List Check → X → Result X BadFile
checked checks x = first_of checks >> Ok x

-- The class and the byte order are known, the header is complete, and the load commands end in the file.
pub record HasHeader (file : List ℕ) (e : Encoding) : Type 0 where
  pub encoding_is : e ≡ encoding_of file
  pub whole : header_len file ≤ length file
  pub ends : commands_end file ≤ length file
  pub small : length file < 2 ^ 32
