-- The contents of the sections of a synthetic file, by its number of functions.
use Rattle.std.specs.Prelude.{ℕ, ◌+◌, ◌-◌, ◌*◌, ◌/◌, ◌%◌, ◌^◌, List, [], ◌∷◌, ◌++◌, map, codes}
use Rattle.std.specs.List.{flat_map, range_with_len}
use Rattle.elf_synth.specs.Records.{symbol_bytes, zeros}

-- The virtual address of the first byte of the file.
abbrev pub image_address : ℕ
image_address = 0x40_0000

-- The virtual address of `.text`, which follows the file header of 64 bytes and the program header of 56.
abbrev pub text_address : ℕ
text_address = image_address + 64 + 56

-- The contents of `.text`: 16 bytes for each function, and byte j is j modulo 256.
unfoldable pub text : ℕ → List ℕ
text n = map (λ j. j % 256) (range_with_len 0 (16 * n))

-- Symbol k of n. The last function comes first, so the addresses fall. A symbol with an odd number ends 8
-- bytes after its function.
unfoldable pub function_symbol : ℕ → ℕ → List ℕ
function_symbol n k = symbol_bytes (record {
  name = 1 + 9 * (n - k);
  section = 1;
  value = text_address + 16 * (n - k);
  size = 16 + 8 * (k % 2);
})

-- The contents of `.symtab`: the null symbol, and one symbol for each function (gABI, Symbol Table).
unfoldable pub symbols : ℕ → List ℕ
symbols n = zeros 24 ++ flat_map (function_symbol n) (range_with_len 1 n)

-- The name of a function: f, its number in seven decimal digits, and a zero byte.
unfoldable pub function_name : ℕ → List ℕ
function_name k = codes "f" ++ map (λ p. 48 + k / 10 ^ p % 10) (6 ∷ 5 ∷ 4 ∷ 3 ∷ 2 ∷ 1 ∷ 0 ∷ []) ++ (0 ∷ [])

-- The contents of `.strtab`: a zero byte, and the names of the functions (gABI, String Table).
unfoldable pub strings : ℕ → List ℕ
strings n = (0 ∷ []) ++ flat_map function_name (range_with_len 1 n)

-- The names of the sections but section 0.
abbrev pub names : List (List ℕ)
names = codes ".text" ∷ codes ".symtab" ∷ codes ".strtab" ∷ codes ".shstrtab" ∷ []

-- These texts, each with a zero byte after it.
abbrev pub ended : List (List ℕ) → List ℕ
ended texts = flat_map (λ text. text ++ (0 ∷ [])) texts

-- The contents of `.shstrtab`: a zero byte, and the names of the sections (gABI, String Table).
unfoldable pub section_names : List ℕ
section_names = (0 ∷ []) ++ ended names
