-- How the bytes of a sink grow.
use Rattle.std.specs.Prelude.{◌≡◌, ℕ, ◌<◌, List, length, take, Option}
use Rattle.std.specs.Io.KnownBytes.{append_known}

-- If the bytes of a sink are known, they grew by these.
abbrev pub Grew : Option (List ℕ) → Option (List ℕ) → List ℕ → Type 0
Grew old new bytes = new ≡ append_known old bytes

-- If the bytes of a sink are known, they grew by a proper prefix of these.
pub record GrewByPart (old new : Option (List ℕ)) (bytes : List ℕ) : Type 0 where
  pub count : ℕ
  pub proper : count < length bytes
  pub is : Grew old new (take count bytes)
