-- Laws of the definition of the notes of an area.
use Rattle.std.specs.Prelude.{◌≡◌, ℕ, true, false, List, [], ◌∷◌}
use Rattle.byte_cursor.specs.declared.order.Order.{Order}
use Rattle.debug_pair.specs.Notes.{after_note, has_note, note_of, notes}

-- After a note come the notes of the bytes after it.
abbrev pub NotesGoOn : Type 0
NotesGoOn = (order : Order) (area : List ℕ) → has_note order area ≡ true → notes order area ≡ note_of order area ∷ notes order (after_note order area)

-- If no note fits at the start of an area, the area has no notes.
abbrev pub NotesEnd : Type 0
NotesEnd = (order : Order) (area : List ℕ) → has_note order area ≡ false → notes order area ≡ []
