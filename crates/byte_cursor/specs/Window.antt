-- A cursor as contracts see it.
use Rattle.std.specs.Prelude.{ℕ, ◌+◌, ◌^◌, ◌<◌, ◌≤◌, List, Bool, true, false}

-- A window: the bytes of a file from the offset base on, and a position among them.
pub record Window : Type 0 where
  pub base : ℕ
  pub bytes : List ℕ
  pub at : ℕ

-- The position lies in the window or at its end, and the window ends below 2^63.
pub record IsInFile (base length at : ℕ) : Type 0 where
  pub within : at ≤ length
  pub fits : base + length < 2 ^ 63

-- The file offset of the position.
abbrev pub place_of : Window → ℕ
place_of w = w.base + w.at

-- The cursor after a read of count bytes. It moves only if the read succeeded.
abbrev pub moved : Window → Bool → ℕ → Window
moved w true count = record w { at = w.at + count }
moved w false count = w
