-- Names that are read one after the other.
use Rattle.std.proofs.Common.{◌≡◌, ℕ, ◌+◌, List, ◌++◌, length, Some, Result, Ok, Err, arith}
use Rattle.std.specs.Prelude.{OnOk, slice_get}
use Rattle.std.proofs.lemmas.Grind.{common_steps}
use Rattle.std.proofs.lemmas.Option.{gets}

-- A name keeps its index if names follow, and is further back by the number of names before it.
pub get-front : (names rest : List (List ℕ)) (k : ℕ) (name : List ℕ) → slice_get names k ≡ Some name → slice_get (names ++ rest) k ≡ Some name
get-front names rest k name at = grind (arith, common_steps, gets)

pub get-behind : (front names : List (List ℕ)) (k : ℕ) → slice_get (front ++ names) (length front + k) ≡ slice_get names k
get-behind front names k = grind (arith, common_steps, gets)

-- A statement that holds for any result.
pub OnOk-any : {T E : Type 0} (r : Result T E) (P : Type 0) → P → OnOk r P
OnOk-any (Ok v) P p = p
OnOk-any (Err e) P p = tt
