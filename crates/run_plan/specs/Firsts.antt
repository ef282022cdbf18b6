-- Items that are added to a list one after the other.
use Rattle.std.specs.Prelude.{◌≡◌, ℕ, ◌≤◌, ◌++◌, List, length, take}

-- The items of before, and then the first `count` of these, each once and in order.
pub record AddsFirst (count : ℕ) (before after items : List (List ℕ)) : Type 0 where
  pub within : count ≤ length items
  pub are : after ≡ before ++ take count items
