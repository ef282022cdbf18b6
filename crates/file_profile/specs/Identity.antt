-- Whether a debug file belongs to a file.
use Rattle.std.specs.Prelude.{ℕ, Bool, false, List, Option, None, Some}
use Rattle.std.specs.Str.{bytes_eq}
use Rattle.data_sources.specs.declared.binary.Binary.{Binary}
use Rattle.data_sources.specs.declared.binary.Binary.TheVariants.{Elf, Macho, Wasm}
use Rattle.debug_pair.specs.Identities.{elf_identity, macho_identity}

-- Both are present, and they are the same bytes.
abbrev pub is_same : Option (List ℕ) → Option (List ℕ) → Bool
is_same None debug = false
is_same (Some own) None = false
is_same (Some own) (Some debug) = bytes_eq own debug

-- Both files have one format and the same identifier: the build ID of ELF or the UUID of Mach-O. WebAssembly has none.
abbrev pub is_pair : Binary → Binary → Bool
is_pair (Elf file) (Elf debug) = is_same (elf_identity file) (elf_identity debug)
is_pair (Elf file) (Macho debug) = false
is_pair (Elf file) (Wasm debug) = false
is_pair (Macho file) (Elf debug) = false
is_pair (Macho file) (Macho debug) = is_same (macho_identity file) (macho_identity debug)
is_pair (Macho file) (Wasm debug) = false
is_pair (Wasm file) debug = false
