-- The format of a file by its first bytes.
use Rattle.std.specs.Prelude.{ℕ, ◌||◌, Bool, nat_eq, List, [], ◌∷◌, codes}
use Rattle.std.specs.List.{starts_with}

-- The file begins with these bytes.
abbrev pub begins_with : List ℕ → List ℕ → Bool
begins_with file magic = starts_with nat_eq file magic

-- The file is an archive of objects, which may be a thin one.
abbrev pub is_archive : List ℕ → Bool
is_archive file = begins_with file (codes "!<arch>\n") || begins_with file (codes "!<thin>\n")

-- The file is a universal Mach-O file, with 32-bit or 64-bit offsets.
abbrev pub is_universal : List ℕ → Bool
is_universal file = begins_with file (0xca ∷ 0xfe ∷ 0xba ∷ 0xbe ∷ []) || begins_with file (0xca ∷ 0xfe ∷ 0xba ∷ 0xbf ∷ [])

-- The file is a thin Mach-O file: 32-bit and 64-bit, each in little-endian and big-endian (mach-o/loader.h, `magic`).
abbrev pub is_macho : List ℕ → Bool
is_macho file =
    begins_with file (0xce ∷ 0xfa ∷ 0xed ∷ 0xfe ∷ []) || begins_with file (0xcf ∷ 0xfa ∷ 0xed ∷ 0xfe ∷ [])
    || begins_with file (0xfe ∷ 0xed ∷ 0xfa ∷ 0xce ∷ []) || begins_with file (0xfe ∷ 0xed ∷ 0xfa ∷ 0xcf ∷ [])

-- The file is a WebAssembly module (WebAssembly core 2.0, 5.5.16 Modules).
abbrev pub is_wasm : List ℕ → Bool
is_wasm file = begins_with file (0x00 ∷ 0x61 ∷ 0x73 ∷ 0x6d ∷ [])

-- The file is an ELF file: EI_MAG0 to EI_MAG3 (ELF gABI, ELF Identification).
abbrev pub is_elf : List ℕ → Bool
is_elf file = begins_with file (0x7f ∷ 0x45 ∷ 0x4c ∷ 0x46 ∷ [])
