-- The targets of stretches, for a range of their sources.
use Rattle.std.specs.Prelude.{◌+◌, ◌-◌, ℕ, min, max, nat_lt, List, map, filter}
use Rattle.size_model.specs.declared.piece.Piece.{Piece}
use Rattle.dual_map.specs.declared.stretch.Stretch.{Stretch}

-- The first number after a stretch's sources.
abbrev pub source_end : Stretch → ℕ
source_end s = s.source + s.len

-- The targets of the sources from low up to high, as a labelled range.
abbrev pub clipped : ℕ → ℕ → ℕ → Stretch → Piece
clipped low high label s = record {
  start = s.target + (max low s.source - s.source);
  len = min high (source_end s) - max low s.source;
  label = label;
}

-- The ranges that aren't empty.
abbrev pub kept : List Piece → List Piece
kept ps = filter (λ (p : Piece). nat_lt 0 p.len) ps

-- The targets of all stretches for the sources from low up to high.
abbrev pub carried : ℕ → ℕ → ℕ → List Stretch → List Piece
carried low high label ss = kept (map (clipped low high label) ss)
