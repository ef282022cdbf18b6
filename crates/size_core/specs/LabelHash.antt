-- The hash of a label, whose bytes come one by one. The contract of a hasher needs it as a function. No result depends on it.
use Rattle.std.specs.Prelude.{ℕ, ◌+◌, ◌*◌, ◌/◌, ◌%◌, ◌^◌, List, if◌then◌else◌, nat_lt, bit_xor}
use Rattle.std.specs.List.{fold}
use Rattle.size_core.specs.declared.label_hasher.LabelHasher.{LabelHasher}

-- The two halves of the 128 bits of a product, joined by `xor`.
unfoldable pub folded_product : ℕ → ℕ → ℕ
folded_product a b = bit_xor ((a * b) % 2 ^ 64) (a * b / 2 ^ 64)

-- The hash of the words so far and one more word.
unfoldable pub mixed : ℕ → ℕ → ℕ
mixed state word = folded_product (bit_xor state word) 0x9e37_79b9_7f4a_7c15

-- The hasher after one more byte. A word is full after seven bytes, since it begins with a bit that shows where they begin.
unfoldable pub add_byte : LabelHasher → ℕ → LabelHasher
add_byte h byte = if nat_lt h.word (2 ^ 56) then record { state = h.state; word = h.word * 256 + byte } else record { state = mixed h.state h.word; word = 256 + byte }

-- The hasher after some more bytes.
abbrev pub add_bytes : LabelHasher → List ℕ → LabelHasher
add_bytes h bytes = fold add_byte h bytes

-- The hash of all bytes.
abbrev pub hash_of : LabelHasher → ℕ
hash_of h = mixed h.state h.word
