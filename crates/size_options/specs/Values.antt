-- Parsing the values of options.
use Rattle.std.specs.Prelude.{ℕ, Bool, false, ◌&&◌, ◌||◌, ◌==◌, ◌^◌, List, [], ◌∷◌, Option, None, Some, codes, drop, if◌then◌else◌, is_none, length, nat_le, nat_lt, option_and_then, option_map, unwrap_or}
use Rattle.std.specs.List.{after_first, before_first, list_all, list_any, position_or_len, starts_with}
use Rattle.std.specs.Char.{is_ascii_digit, is_ascii_hexdigit}
use Rattle.std.specs.Str.{bytes_eq}
use Rattle.std.specs.Str.Parse.{digits_value}
use Rattle.clap.specs.Words.{Text}
use Rattle.size_core.specs.declared.choices.Domain.{Domain}
use Rattle.size_core.specs.declared.choices.Domain.TheVariants as domain
use Rattle.size_core.specs.declared.choices.Sort.{Sort}
use Rattle.size_core.specs.declared.choices.Sort.TheVariants as sort
use Rattle.size_core.specs.declared.place.Place.{Place}
use Rattle.size_core.specs.declared.place.Place.TheVariants.{Address, Offset}

-- Whether a text has at least one byte and at most `most`.
abbrev pub is_short : ℕ → Text → Bool
is_short most t = nat_lt 0 (length t) && nat_le (length t) most

-- Whether a text is one to `most` digits.
abbrev pub has_digits : (ℕ → Bool) → ℕ → Text → Bool
has_digits is_digit most t = is_short most t && list_all is_digit t

-- Whether a text is a number below 2^32 of one to ten digits.
abbrev pub is_number : Text → Bool
is_number t = has_digits is_ascii_digit 10 t && nat_lt (digits_value 10 t) (2 ^ 32)

-- The value of a number below 2^32 of one to ten digits.
abbrev pub number_of : Text → Option ℕ
number_of t = if is_number t then Some (digits_value 10 t) else None

-- The value of a number of at most a million.
abbrev pub small_number_of : Text → Option ℕ
small_number_of t = option_and_then (λ n. if nat_le n 1000000 then Some n else None) (number_of t)

-- Whether a text is a number below 2^64 of one to twenty digits.
abbrev pub is_decimal : Text → Bool
is_decimal t = has_digits is_ascii_digit 20 t && nat_lt (digits_value 10 t) (2 ^ 64)

-- The value of a number below 2^64 of one to twenty digits.
abbrev pub decimal_of : Text → Option ℕ
decimal_of t = if is_decimal t then Some (digits_value 10 t) else None

-- The value of one to sixteen hexadecimal digits of either case. It always fits in 64 bits.
abbrev pub hexadecimal_of : Text → Option ℕ
hexadecimal_of t = if has_digits is_ascii_hexdigit 16 t then Some (digits_value 16 t) else None

-- The value of a number below 2^64: `0x` and hexadecimal digits, or decimal digits.
abbrev pub wide_number_of : Text → Option ℕ
wide_number_of t = if starts_with ◌==◌ t (codes "0x") then hexadecimal_of (drop 2 t) else decimal_of t

-- The file offset that a text gives.
abbrev pub offset_of : Text → Option Place
offset_of t = option_map (λ n. Offset n) (wide_number_of t)

-- Whether a byte is a colon.
abbrev pub is_colon : ℕ → Bool
is_colon c = c == 58

-- The address in this address space, if both can be parsed.
abbrev pub address_in : Option ℕ → Option ℕ → Option Place
address_in (Some space) (Some address) = Some (Address space address)
address_in _ _ = None

-- The address that a text gives: a space, a colon and a number, or a number alone for space 0.
abbrev pub address_of : Text → Option Place
address_of t = if nat_lt (position_or_len is_colon t) (length t)
    then address_in (number_of (before_first is_colon t)) (wide_number_of (after_first is_colon t))
    else address_in (Some 0) (wide_number_of t)

-- The location to explain: that of an offset, or that of an address if there is no offset.
abbrev pub place_of : Option Text → Option Text → Option Place
place_of (Some offset) address = offset_of offset
place_of None address = option_and_then address_of address

-- The sort order that a text names.
abbrev pub sort_of : Text → Option Sort
sort_of t = if bytes_eq t (codes "vm") then Some sort.Vm
    else if bytes_eq t (codes "file") then Some sort.File
    else if bytes_eq t (codes "both") then Some sort.Both else None

-- The domain that a text names.
abbrev pub domain_of : Text → Option Domain
domain_of t = if bytes_eq t (codes "vm") then Some domain.Vm
    else if bytes_eq t (codes "file") then Some domain.File
    else if bytes_eq t (codes "both") then Some domain.Both else None

-- Whether a value is given that can't be parsed.
abbrev pub is_bad : {X : Type 0} → (Text → Option X) → Option Text → Bool
is_bad read None = false
is_bad read (Some t) = is_none (read t)

-- The parsed value, or the default.
abbrev pub value_or : {X : Type 0} → (Text → Option X) → X → Option Text → X
value_or read otherwise None = otherwise
value_or read otherwise (Some t) = unwrap_or (read t) otherwise

-- The names, with this byte before the first one.
abbrev pub begun_by : ℕ → List Text → List Text
begun_by c [] = (c ∷ []) ∷ []
begun_by c (name ∷ names) = (c ∷ name) ∷ names

-- The comma-separated names. There is one more than there are commas.
abbrev pub names_in : Text → List Text
names_in [] = [] ∷ []
names_in (c ∷ cs) = if c == 44 then [] ∷ names_in cs else begun_by c (names_in cs)

-- Whether a name is empty, or there are more than eight.
abbrev pub is_bad_list : List Text → Bool
is_bad_list names = list_any (λ n. length n == 0) names || nat_lt 8 (length names)
