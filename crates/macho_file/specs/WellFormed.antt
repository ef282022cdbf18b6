-- What is known of a Mach-O file whose checks hold.
use Rattle.std.specs.Prelude.{◌≡◌, ◌≢◌, ℕ, ◌+◌, ◌^◌, ◌≤◌, All, List, length, true}
use Rattle.macho_records.specs.Layout.{header_len, commands_end}
use Rattle.macho_file.specs.declared.command.Command.{Command}
use Rattle.macho_file.specs.Commands.{commands}
use Rattle.macho_file.specs.Tables.{SegmentRecord, SectionRecord, segments, sections}

-- A command ends by the end of the load commands.
abbrev pub IsAmongCommands : List ℕ → Command → Type 0
IsAmongCommands file c = c.place + c.size ≤ commands_end file

-- The addresses of a segment end by 2^64.
abbrev pub HasAddresses : SegmentRecord → Type 0
HasAddresses s = s.vaddr + s.memsz ≤ 2 ^ 64

-- The addresses of a section end by 2^64, and its bytes lie in the file.
pub record Fits (file : List ℕ) (s : SectionRecord) : Type 0 where
  pub addresses : s.addr + s.size ≤ 2 ^ 64
  pub contents : s.in_file ≡ true → s.size ≢ 0 → s.offset + s.size ≤ length file

-- A well-formed Mach-O file: the header and the load commands lie in the file, no address range ends after 2^64, and
-- the bytes of each section lie in the file.
pub record IsWellFormed (file : List ℕ) : Type 0 where
  pub header : header_len file ≤ length file
  pub commands_within : commands_end file ≤ length file
  pub each_command : All (IsAmongCommands file) (commands file)
  pub each_segment : All HasAddresses (segments file)
  pub each_section : All (Fits file) (sections file)
