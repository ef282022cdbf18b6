-- How many numbers pass a test.
use Rattle.std.specs.Prelude.{◌+◌, ℕ, suc, zero, Bool, if◌then◌else◌}

-- How many of the n numbers from a on pass a test.
unfoldable pub count_from : (ℕ → Bool) → ℕ → ℕ → ℕ
count_from test a zero = 0
count_from test a (suc n) = (if test a then 1 else 0) + count_from test (a + 1) n
