-- The texts of sizes and percentages.
use Rattle.std.specs.Prelude.{ℕ, ◌+◌, ◌-◌, ◌*◌, ◌/◌, ◌%◌, ◌^◌, ◌==◌, nat_lt, List, [], ◌∷◌, ◌++◌, length, replicate, codes, decimal, if◌then◌else◌}

-- A number of tenths: a decimal point before the last digit, and at least one digit before the point.
unfoldable pub tenths : ℕ → List ℕ
tenths n = decimal (n / 10) ++ (46 ∷ (48 + n % 10) ∷ [])

-- A size in a unit, rounded down to a tenth.
unfoldable pub in_unit : ℕ → ℕ → List ℕ → List ℕ
in_unit size unit letters = tenths (10 * size / unit) ++ letters

-- A size in bytes: exact below 1024, and else in the greatest unit that isn't larger than it.
unfoldable pub size_text : ℕ → List ℕ
size_text n =
    if nat_lt n (2 ^ 10) then decimal n
    else if nat_lt n (2 ^ 20) then in_unit n (2 ^ 10) (codes "Ki")
    else if nat_lt n (2 ^ 30) then in_unit n (2 ^ 20) (codes "Mi")
    else if nat_lt n (2 ^ 40) then in_unit n (2 ^ 30) (codes "Gi")
    else if nat_lt n (2 ^ 50) then in_unit n (2 ^ 40) (codes "Ti")
    else if nat_lt n (2 ^ 60) then in_unit n (2 ^ 50) (codes "Pi")
    else in_unit n (2 ^ 60) (codes "Ei")

-- How many thousandths of the total a size is, rounded down. It is 0 if the total is 0.
abbrev pub thousandths : ℕ → ℕ → ℕ
thousandths size total = if total == 0 then 0 else 1000 * size / total

-- The percentage of a size in a total, rounded down to a tenth.
unfoldable pub percent_text : ℕ → ℕ → List ℕ
percent_text size total = tenths (thousandths size total) ++ codes "%"

-- This many spaces.
unfoldable pub spaces : ℕ → List ℕ
spaces n = replicate n 32

-- A text, right-aligned in a column of this width.
unfoldable pub right : ℕ → List ℕ → List ℕ
right places text = spaces (places - length text) ++ text
