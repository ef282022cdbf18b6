-- The ranges that claims label: those of each claim in order, and then everything else.
use Rattle.std.specs.Prelude.{◌+◌, ◌-◌, ◌*◌, ◌^◌, ℕ, min, List, [], ◌∷◌, ◌++◌}
use Rattle.size_core.specs.declared.claim.Span.{Span}
use Rattle.size_core.specs.declared.claim.Claim.{Claim}
use Rattle.size_core.specs.declared.claim.Side.{Side}
use Rattle.size_core.specs.declared.claim.Side.TheVariants.{File, Vm, Both}
use Rattle.size_model.specs.declared.piece.Piece.{Piece}
use Rattle.dual_map.specs.declared.stretch.Stretch.{Stretch}
use Rattle.dual_map.specs.Index.{carried, kept}

-- The first position of a span of addresses.
abbrev pub low_of : Span → ℕ
low_of s = s.space * 2 ^ 64 + s.start

-- The end of a span of addresses, clipped to its address space.
abbrev pub high_of : Span → ℕ
high_of s = s.space * 2 ^ 64 + min (2 ^ 64) (s.start + s.len)

-- The part of a span of offsets that lies in a file of len bytes.
abbrev pub in_file : ℕ → ℕ → Span → Piece
in_file len label s = record { start = s.start; len = min s.len (len - s.start); label = label }

-- The offsets that a claim labels, by its side.
abbrev pub offsets_of : Side → ℕ → List Stretch → Span → Span → ℕ → List Piece
offsets_of File len to_file vm file label = kept (in_file len label file ∷ [])
offsets_of Vm len to_file vm file label = carried (low_of vm) (high_of vm) label to_file
offsets_of Both len to_file vm file label = kept (in_file len label file ∷ [])

-- The offsets that each claim labels, in order, and then all offsets of the file.
abbrev pub all_offsets : ℕ → List Stretch → ℕ → List Claim → List Piece
all_offsets len to_file unmapped [] = kept (record { start = 0; len = len; label = unmapped } ∷ [])
all_offsets len to_file unmapped (c ∷ cs) =
    offsets_of c.side len to_file c.vm c.file c.label ++ all_offsets len to_file unmapped cs

-- The positions that a claim labels, by its side.
abbrev pub positions_of : Side → List Stretch → List Stretch → Span → Span → ℕ → List Piece
positions_of File to_memory in_memory vm file label = carried file.start (file.start + file.len) label to_memory
positions_of Vm to_memory in_memory vm file label = carried (low_of vm) (high_of vm) label in_memory
positions_of Both to_memory in_memory vm file label = carried (low_of vm) (high_of vm) label in_memory

-- The positions that each claim labels, in order, and then all mapped positions.
abbrev pub all_positions : List Stretch → List Stretch → ℕ → List Claim → List Piece
all_positions to_memory in_memory unmapped [] = carried 0 (2 ^ 96) unmapped in_memory
all_positions to_memory in_memory unmapped (c ∷ cs) =
    positions_of c.side to_memory in_memory c.vm c.file c.label ++ all_positions to_memory in_memory unmapped cs
