-- Lists of labelled ranges that a range map is made of.
use Rattle.std.specs.Prelude.{◌≡◌, ◌^◌, ◌<◌, ◌≤◌, ℕ, IsTrue, List, [], ◌∷◌, ◌++◌}
use Rattle.size_model.specs.declared.piece.Piece.{Piece}
use Rattle.size_model.specs.Cut.{end_of, is_place, IsTidy, IsLaid}

-- A range that `build` accepts: it starts below 2^96, and its length fits a u64.
pub record IsRange (p : Piece) : Type 0 where
  pub start_fits : p.start < 2 ^ 96
  pub len_fits : p.len < 2 ^ 64

-- No range reaches past this position.
abbrev pub EndsBy : ℕ → List Piece → Type 0
EndsBy at [] = Unit {0}
EndsBy at (p ∷ ps) = (end_of p ≤ at) × EndsBy at ps

-- Each endpoint of a piece of the second list is an endpoint of a range of the first.
abbrev pub KeepsPlaces : List Piece → List Piece → Type 0
KeepsPlaces ranges ps = (x : ℕ) → IsTrue (is_place ps x) → IsTrue (is_place ranges x)

-- The pieces `new` result from adding the ranges to the pieces `old`, one after another.
abbrev pub IsAddedTo : List Piece → List Piece → List Piece → Type 0
IsAddedTo old [] new = old ≡ new
IsAddedTo old (r ∷ rs) new = (next : List Piece) × IsLaid (old ++ r ∷ []) next × IsAddedTo next rs new

-- The properties of the pieces of every range map.
pub record IsMap (ps : List Piece) : Type 0 where
  pub tidy : IsTidy ps
  pub fits : EndsBy (2 ^ 97) ps
