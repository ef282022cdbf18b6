-- Opening a file by its format.
use Rattle.std.specs.Prelude.{ℕ, List, Result, Ok, if◌then◌else◌}
use Rattle.size_core.specs.declared.fault.BadFile.{BadFile}
use Rattle.size_core.specs.declared.fault.Fault.TheVariants.{UnknownFormat, Archive, Universal}
use Rattle.size_core.specs.Checks.{◌>>=◌, bad}
use Rattle.elf_file.specs.ElfChecks.{opened as opened_elf}
use Rattle.macho_file.specs.Checks.{opened as opened_macho}
use Rattle.wasm_file.specs.Module.{opened as opened_wasm}
use Rattle.data_sources.specs.declared.binary.Binary.{Binary}
use Rattle.data_sources.specs.declared.binary.Binary.TheVariants.{Elf, Macho, Wasm}
use Rattle.data_sources.specs.Kind.{is_archive, is_elf, is_macho, is_universal, is_wasm}

-- The opened file, or its first fault: Archive, Universal or UnknownFormat at offset 0, or the first fault of the
-- checks of its format.
unfoldable pub opened : List ℕ → Result Binary BadFile
opened file =
    if is_archive file then bad Archive 0
    else if is_universal file then bad Universal 0
    else if is_elf file then (opened_elf file >>= λ f. Ok (Elf f))
    else if is_macho file then (opened_macho file >>= λ f. Ok (Macho f))
    else if is_wasm file then (opened_wasm file >>= λ f. Ok (Wasm f))
    else bad UnknownFormat 0
