-- The turns of readings. A turn is one read of an open file, seen as the bytes that it took.
use Rattle.std.specs.Prelude.{◌≡◌, ℕ, ◌-◌, ◌^◌, ◌<◌, ◌≤◌, List, ◌++◌, length, take}
use Rattle.std.specs.List.{All, concat}

-- The most bytes that one turn takes.
abbrev pub turn_most : ℕ
turn_most = 2 ^ 18

-- A reader that notes its turns: the reader, the bytes of each turn in order, and how many turns failed. A
-- failed turn took no bytes.
pub record SeenReader (F : Type 0) : Type 0 where
  pub file : F
  pub turns : List (List ℕ)
  pub failures : ℕ

-- A reading took these bytes. After the earlier turns there are those of the reading, and no others. Their
-- concatenated bytes are these. Each but the last took at least one byte, and none took more than
-- turn_most.
pub record Took (before now : List (List ℕ)) (bytes : List ℕ) : Type 0 where
  pub made : List (List ℕ)
  pub behind : now ≡ before ++ made
  pub whole : concat made ≡ bytes
  pub some : All (λ turn. 0 < length turn) (take (length made - 1) made)
  pub most : All (λ turn. length turn ≤ turn_most) made

-- A reading took at most this many bytes.
pub record TookAtMost (most : ℕ) (before now : List (List ℕ)) : Type 0 where
  pub bytes : List ℕ
  pub took : Took before now bytes
  pub within : length bytes ≤ most
