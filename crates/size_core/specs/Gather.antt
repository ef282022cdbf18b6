-- Lists and searches over a range of numbers.
use Rattle.std.specs.Prelude.{ℕ, zero, suc, ◌+◌, Bool, List, [], ◌++◌, Option, None, Some, if◌then◌else◌}

-- The lists that f gives for count numbers from i on, joined in order.
unfoldable pub gather : {X : Type 0} → (ℕ → List X) → ℕ → ℕ → List X
gather f i zero = []
gather f i (suc count) = f i ++ gather f (i + 1) count

-- The first of count numbers from i on that passes the test.
unfoldable pub first_from : (ℕ → Bool) → ℕ → ℕ → Option ℕ
first_from p i zero = None
first_from p i (suc count) = if p i then Some i else first_from p (i + 1) count
