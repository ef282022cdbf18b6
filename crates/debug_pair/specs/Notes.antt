-- The notes of an area (gABI, Note Section).
use Rattle.std.specs.Prelude.{ℕ, zero, suc, ◌+◌, ◌*◌, ◌/◌, ◌&&◌, Bool, List, [], ◌∷◌, length, nat_le, take, drop, if◌then◌else◌}
use Rattle.std.specs.Int.{w32}
use Rattle.byte_cursor.specs.declared.order.Order.{Order}
use Rattle.byte_cursor.specs.Numbers.{field}

-- A note: its name, its type and its descriptor (gABI, Note Section).
pub record NoteRecord : Type 0 where
  pub name : List ℕ
  pub kind : ℕ
  pub content : List ℕ

-- A length, rounded up to a multiple of four (gABI, Note Section).
abbrev pub padded_len : ℕ → ℕ
padded_len len = (len + 3) / 4 * 4

-- The length of the name of the note at the start of an area, namesz (gABI, Note Section).
abbrev pub name_len : Order → List ℕ → ℕ
name_len order area = field area 0 w32 order

-- The length of the descriptor of the note at the start of an area, descsz (gABI, Note Section).
abbrev pub content_len : Order → List ℕ → ℕ
content_len order area = field area 4 w32 order

-- The offset of the descriptor in the area: after namesz, descsz and type, which have four bytes each, and the name
-- with its padding (gABI, Note Section).
abbrev pub content_place : Order → List ℕ → ℕ
content_place order area = 12 + padded_len (name_len order area)

-- A note fits at the start of an area: namesz, descsz and type lie in the area, and so do the name with its padding
-- and the descriptor. The padding of the descriptor may be missing (gABI, Note Section).
unfoldable pub has_note : Order → List ℕ → Bool
has_note order area = nat_le 12 (length area) && nat_le (content_place order area + content_len order area) (length area)

-- The note at the start of an area (gABI, Note Section).
unfoldable pub note_of : Order → List ℕ → NoteRecord
note_of order area = record {
  name = take (name_len order area) (drop 12 area);
  kind = field area 8 w32 order;
  content = take (content_len order area) (drop (content_place order area) area);
}

-- The bytes after the note at the start of an area (gABI, Note Section).
unfoldable pub after_note : Order → List ℕ → List ℕ
after_note order area = drop (content_place order area + padded_len (content_len order area)) area

-- The first notes of an area, at most this many (gABI, Note Section).
unfoldable pub notes_within : ℕ → Order → List ℕ → List NoteRecord
notes_within zero order area = []
notes_within (suc fuel) order area = if has_note order area then note_of order area ∷ notes_within fuel order (after_note order area) else []

-- The notes of an area. Each begins where the one before it ends, and the list ends at the first that
-- doesn't fit. A note has at least twelve bytes, so the length of the area is enough as a bound (gABI, Note
-- Section).
unfoldable pub notes : Order → List ℕ → List NoteRecord
notes order area = notes_within (length area) order area
