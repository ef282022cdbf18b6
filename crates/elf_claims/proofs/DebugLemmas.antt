-- The offset of the bytes of a section, and the number of a section that is found by its name.
use Rattle.std.proofs.Common.{◌≡◌, ℕ, zero, suc, ◌+◌, ◌-◌, ◌^◌, ◌<◌, ◌≤◌, Bool, true, false, List, [], length, take, drop, Some, arith, length-drop}
use Rattle.std.proofs.lemmas.List.{length-take}
use Rattle.std.specs.Prelude.{if◌then◌else◌}
use Rattle.size_core.specs.Gather.{first_from}
use Rattle.elf_file.specs.Names.{has_name, section_named}
use Rattle.elf_file.specs.Tables.{has_bytes, section_at, section_bytes, section_count}

-- the bytes of a section end in the file
bytes_fit : (file : List ℕ) (i : ℕ) → 0 < length (section_bytes file i) → (section_at file i).offset + length (section_bytes file i) ≤ length file
unfolding section_bytes
bytes_fit file i some = by_bytes (has_bytes file i) some
  where
    by_bytes : (b : Bool) → 0 < length (if b then take (section_at file i).size (drop (section_at file i).offset file) else [])
        → (section_at file i).offset + length (if b then take (section_at file i).size (drop (section_at file i).offset file) else []) ≤ length file
    by_bytes true some = omega (arith, length-take (section_at file i).size (drop (section_at file i).offset file), length-drop (section_at file i).offset file)
    by_bytes false some = absurd (omega arith)

-- so their end is below 2^63
pub window_fits : (file bytes : List ℕ) (i offset : ℕ) → length file < 2 ^ 32 → bytes ≡ section_bytes file i → offset ≡ (section_at file i).offset → 0 < length bytes → offset + length bytes < 2 ^ 63
window_fits file bytes i offset small is at some =
    let there : 0 < length (section_bytes file i) = rw (← is) some in
    let fit = bytes_fit file i there in
    rw (is, at) (omega (arith, fit, small))

first_within : (p : ℕ → Bool) (i count j : ℕ) → first_from p i count ≡ Some j → (i ≤ j) × (j < i + count)
unfolding first_from
first_within p i zero j e = cc
first_within p i (suc count) j e = by_test (λ e. first_within p (i + 1) count j e) (p i) e
  where
    by_test : (first_from p (i + 1) count ≡ Some j → (i + 1 ≤ j) × (j < i + 1 + count)) → (b : Bool) → (if b then Some i else first_from p (i + 1) count) ≡ Some j → (i ≤ j) × (j < i + suc count)
    by_test later true e = let same : i ≡ j = cc in (omega arith, omega arith)
    by_test later false e = let rest = later e in (omega (arith, rest.0), omega (arith, rest.1))

-- the number of a section that a name finds
pub named_within : (file name : List ℕ) (i : ℕ) → section_named file name ≡ Some i → i < section_count file
named_within file name i e = let within = first_within (has_name file name) 1 (section_count file - 1) i e in omega (arith, within.0, within.1)
