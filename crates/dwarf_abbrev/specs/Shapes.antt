-- The formats of units that are supported.
use Rattle.std.specs.Prelude.{ℕ, ◌==◌, ◌&&◌, ◌||◌, Bool, nat_le}

-- Whether this version of DWARF is supported.
abbrev pub is_version : ℕ → Bool
is_version version = nat_le 2 version && nat_le version 5

-- Whether an address may have this size in bytes.
abbrev pub is_address_size : ℕ → Bool
is_address_size size = size == 2 || size == 4 || size == 8
