-- The fields of records whose layout depends on the class of the file: 32 bits or 64.
use Rattle.std.specs.Prelude.{ℕ, ◌+◌, List, slice_index, if◌then◌else◌}
use Rattle.std.specs.Int.{w16, w32, w64}
use Rattle.byte_cursor.specs.declared.encoding.ByClass.{ByClass}
use Rattle.byte_cursor.specs.declared.encoding.Encoding.{Encoding}
use Rattle.byte_cursor.specs.Numbers.{field}

-- These numbers for the 32-bit class and for the 64-bit class.
abbrev pub by_class : ℕ → ℕ → ByClass
by_class narrow wide = record { 0 = narrow; 1 = wide }

-- The number for this class.
abbrev pub pick : Encoding → ByClass → ℕ
pick e number = if e.wide then number.1 else number.0

-- The one-byte field of the record at offset place.
unfoldable pub byte : Encoding → List ℕ → ℕ → ByClass → ℕ
byte e bytes place offset = slice_index bytes (place + pick e offset)

-- The two-byte field of the record at offset place.
unfoldable pub half : Encoding → List ℕ → ℕ → ByClass → ℕ
half e bytes place offset = field bytes (place + pick e offset) w16 e.order

-- The four-byte field of the record at offset place.
unfoldable pub four : Encoding → List ℕ → ℕ → ByClass → ℕ
four e bytes place offset = field bytes (place + pick e offset) w32 e.order

-- The size of a field that has four bytes in the 32-bit class and eight in the 64-bit class.
abbrev pub word_len : Encoding → ℕ
word_len e = if e.wide then 8 else 4

-- The field of word_len bytes of the record at offset place.
unfoldable pub word : Encoding → List ℕ → ℕ → ByClass → ℕ
word e bytes place offset = field bytes (place + pick e offset) (if e.wide then w64 else w32) e.order
