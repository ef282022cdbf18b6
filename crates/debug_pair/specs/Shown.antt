-- Notes as contracts see them.
use Rattle.debug_pair.specs.declared.note.Note.{Note}
use Rattle.debug_pair.specs.Notes.{NoteRecord}

-- A note as contracts see it.
abbrev pub note_shown : Note → NoteRecord
note_shown n = record { name = n.name.now; kind = n.kind; content = n.content.now }
