-- Counts that rise. A count is a u64 that stops at 2^64 - 1.
use Rattle.std.specs.Prelude.{ℕ, ◌+◌, ◌-◌, ◌^◌, ◌≤◌, min}

-- A count that was raised by n. It stops at 2^64 - 1.
abbrev pub raised_by : ℕ → ℕ → ℕ
raised_by n count = min (count + n) (2 ^ 64 - 1)

-- A count that was raised by 1.
abbrev pub raised : ℕ → ℕ
raised count = raised_by 1 count

-- A count rose by at least n, or has stopped at 2^64 - 1.
abbrev pub RoseBy : ℕ → ℕ → ℕ → Type 0
RoseBy n before now = raised_by n before ≤ now

-- A count rose, or has stopped at 2^64 - 1.
abbrev pub Rose : ℕ → ℕ → Type 0
Rose before now = RoseBy 1 before now
