-- Loads, and the two translations between file offsets and virtual addresses.
use Rattle.std.specs.Prelude.{◌+◌, ◌-◌, ◌/◌, ◌%◌, ◌^◌, ◌≤◌, ℕ, min, Bool, false, ◌&&◌, ◌||◌, ◌==◌, nat_le, nat_lt, if◌then◌else◌, List, [], ◌∷◌, Option, None, Some}
use Rattle.size_core.specs.declared.claim.Load.{Load}
use Rattle.size_model.specs.Count.{count_from}

-- How many bytes of the file a load maps, before the cut at the end of the file.
abbrev pub load_len : Load → ℕ
load_len l = min l.filesz l.memsz

-- A load covers an address of its space.
abbrev pub load_has_address : Load → ℕ → ℕ → Bool
load_has_address l space x = (l.space == space) && (nat_le l.vaddr x && nat_lt x (l.vaddr + l.memsz))

-- A load covers an offset of a file of this length.
abbrev pub load_has_offset : ℕ → Load → ℕ → Bool
load_has_offset len l o = nat_le l.offset o && (nat_lt o (l.offset + load_len l) && nat_lt o len)

-- An address is mapped: some load covers it.
abbrev pub mapped : List Load → ℕ → ℕ → Bool
mapped [] space x = false
mapped (l ∷ ls) space x = load_has_address l space x || mapped ls space x

-- The space and the virtual address of an offset, by the first load that covers it.
abbrev pub addr : ℕ → List Load → ℕ → Option (ℕ × ℕ)
addr len [] o = None
addr len (l ∷ ls) o = if load_has_offset len l o then Some (l.space, l.vaddr + (o - l.offset)) else addr len ls o

-- The file offset that a load maps to an address. None after the part of the load that is in the file, and
-- from the end of the file on.
abbrev pub place_in : ℕ → Load → ℕ → Option ℕ
place_in len l x =
    if nat_lt (x - l.vaddr) (load_len l) && nat_lt (l.offset + (x - l.vaddr)) len then Some (l.offset + (x - l.vaddr)) else None

-- The file offset of an address of a space, by the first load that covers it.
abbrev pub place : ℕ → List Load → ℕ → ℕ → Option ℕ
place len [] space x = None
place len (l ∷ ls) space x = if load_has_address l space x then place_in len l x else place len ls space x

-- The space of a position. A position of the address spaces is space * 2^64 + address.
abbrev pub space_of : ℕ → ℕ
space_of p = p / 2 ^ 64

-- The address of a position within its space.
abbrev pub address_of : ℕ → ℕ
address_of p = p % 2 ^ 64

-- A position is mapped.
abbrev pub is_mapped : List Load → ℕ → Bool
is_mapped loads p = mapped loads (space_of p) (address_of p)

-- How many positions are mapped. Each is counted once.
abbrev pub mapped_count : List Load → ℕ
mapped_count loads = count_from (is_mapped loads) 0 (2 ^ 96)

-- A load whose last address is below 2^64.
pub record IsLoad (l : Load) : Type 0 where
  pub ends : l.vaddr + l.memsz ≤ 2 ^ 64
