-- Translations: addresses to offsets, offsets to addresses, and addresses to themselves.
use Rattle.std.specs.Prelude.{◌≡◌, ◌+◌, ◌-◌, ◌*◌, ◌^◌, ◌<◌, ◌≤◌, ℕ, min, Bool, true, ◌&&◌, nat_le, nat_lt, if◌then◌else◌, List, map, filter, All, length, get_or, Option, None, Some}
use Rattle.std.specs.List.{list_any}
use Rattle.size_core.specs.declared.claim.Load.{Load}
use Rattle.size_model.specs.declared.piece.Piece.{Piece}
use Rattle.size_model.specs.Cut.{end_of}
use Rattle.size_model.specs.Loads.{load_len, addr, place, is_mapped, space_of, address_of}
use Rattle.dual_map.specs.declared.stretch.Stretch.{Stretch}

-- The direction of a translation: from positions to the offsets that are loaded there, from offsets to the
-- positions that they are loaded to, and from each mapped position to itself.
pub data Way : Type 0 where
  ToFile : Way
  ToMemory : Way
  InMemory : Way

-- The position of an address in an address space.
abbrev pub position_at : ℕ × ℕ → ℕ
position_at a = a.0 * 2 ^ 64 + a.1

-- The position of a load's first address.
abbrev pub position_of_load : Load → ℕ
position_of_load l = l.space * 2 ^ 64 + l.vaddr

-- The position of an address, if there is one.
abbrev pub position_if_any : Option (ℕ × ℕ) → Option ℕ
position_if_any None = None
position_if_any (Some a) = Some (position_at a)

-- The source of a number in a translation, if it has one.
abbrev pub source_of : Way → ℕ → List Load → ℕ → Option ℕ
source_of ToFile len loads o = position_if_any (addr len loads o)
source_of ToMemory len loads p = place len loads (space_of p) (address_of p)
source_of InMemory len loads p = if is_mapped loads p then Some p else None

-- The stretch that leads to a piece, by the piece's load.
abbrev pub stretch_of : Way → ℕ → Load → Piece → Stretch
stretch_of ToFile len l p = record { source = position_of_load l + (p.start - l.offset); target = p.start; len = p.len }
stretch_of ToMemory len l p = record {
  source = l.offset + (p.start - position_of_load l);
  target = p.start;
  len = min p.len (min (load_len l) (len - l.offset) - (p.start - position_of_load l));
}
stretch_of InMemory len l p = record { source = p.start; target = p.start; len = p.len }

-- An empty load, for a number that no load has.
abbrev pub no_load : Load
no_load = record { space = 0; vaddr = 0; memsz = 0; offset = 0; filesz = 0 }

-- The stretch to these targets. Its source is 0 and isn't used.
abbrev pub gap_of : ℕ → ℕ → Stretch
gap_of from to = record { source = 0; target = from; len = to - from }

-- The load that is a piece's label.
abbrev pub load_of : List Load → Piece → Load
load_of loads p = get_or loads p.label no_load

-- The stretches that aren't empty.
abbrev pub some_of : List Stretch → List Stretch
some_of ss = filter (λ (s : Stretch). nat_lt 0 s.len) ss

-- The stretches that lead to these pieces, each by the load that is the piece's label.
abbrev pub stretches_of : Way → ℕ → List Load → List Piece → List Stretch
stretches_of way len loads ps = some_of (map (λ p. stretch_of way len (load_of loads p) p) ps)

-- The first target of a load.
abbrev pub first_of : Way → Load → ℕ
first_of ToFile l = l.offset
first_of ToMemory l = position_of_load l
first_of InMemory l = position_of_load l

-- A piece lies in what a load covers.
pub record LiesIn (way : Way) (l : Load) (p : Piece) : Type 0 where
  pub low : first_of way l ≤ p.start
  pub high : end_of p ≤ first_of way l + l.memsz
  pub fits : end_of p ≤ 2 ^ 96

-- A piece lies in what the load of its label covers.
pub record IsPieceOf (way : Way) (loads : List Load) (p : Piece) : Type 0 where
  pub within : p.label < length loads
  pub lies : LiesIn way (load_of loads p) p

-- The numbers of a stretch are those of positions.
pub record IsSmall (s : Stretch) : Type 0 where
  pub len_fits : s.len < 2 ^ 64
  pub source_fits : s.source + s.len ≤ 2 ^ 96
  pub target_fits : s.target + s.len ≤ 2 ^ 96

-- Whether a number is one of a stretch's targets.
abbrev pub has_target : Stretch → ℕ → Bool
has_target s y = nat_le s.target y && nat_lt y (s.target + s.len)

-- The stretches translate exactly: each number that has a source is a target of it, and no other number is a
-- target.
pub record Carries (source : ℕ → Option ℕ) (ss : List Stretch) : Type 0 where
  pub sound : All (λ (s : Stretch). (y : ℕ) → has_target s y ≡ true → source y ≡ Some (s.source + (y - s.target))) ss
  pub whole : (y v : ℕ) → source y ≡ Some v → list_any (λ (s : Stretch). has_target s y) ss ≡ true
