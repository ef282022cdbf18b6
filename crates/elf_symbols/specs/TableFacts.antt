-- What is known of a symbol table.
use Rattle.std.specs.Prelude.{◌≡◌, ℕ, ◌+◌, ◌*◌, ◌^◌, ◌<◌, ◌≤◌, List, length}
use Rattle.byte_cursor.specs.declared.encoding.Encoding.{Encoding}
use Rattle.elf_file.specs.Layout.{encoding_of}
use Rattle.elf_file.specs.Tables.{section_at}
use Rattle.elf_symbols.specs.Symbols.{symbol_len, symbol_count, names_of, names_place, numbers_of}

-- The symbol at file offset place lies in the file.
abbrev pub HasSymbol : List ℕ → ℕ → Type 0
HasSymbol file place = place + symbol_len (encoding_of file) ≤ length file

-- The table in section i lies in the file, and these are its parts.
pub record IsTable (file : List ℕ) (i : ℕ) (e : Encoding) (offset count link base : ℕ) (names numbers : List ℕ) : Type 0 where
  pub encoding_is : e ≡ encoding_of file
  pub offset_is : offset ≡ (section_at file i).offset
  pub count_is : count ≡ symbol_count file i
  pub within : 0 < count → offset + count * symbol_len e ≤ length file
  pub small : length file < 2 ^ 32
  pub link_is : link ≡ (section_at file i).link
  pub base_is : base ≡ names_place file i
  pub near : base < 2 ^ 32
  pub names_are : names ≡ names_of file i
  pub numbers_are : numbers ≡ numbers_of file i
