-- The label of an offset and of an address.
use Rattle.std.specs.Prelude.{ℕ, Bool, nat_lt, if◌then◌else◌, List, [], ◌∷◌, Option, None, Some}
use Rattle.size_core.specs.declared.claim.Load.{Load}
use Rattle.size_core.specs.declared.claim.Claim.{Claim}
use Rattle.size_model.specs.Loads.{is_mapped, space_of, address_of}
use Rattle.size_model.specs.Claims.{covers_offset, covers_address}

-- The label of the first item that passes the test `covers`, or `unmapped` if none does.
abbrev pub first_label : {C L : Type 0} → (C → Bool) → (C → L) → L → List C → L
first_label covers label unmapped [] = unmapped
first_label covers label unmapped (c ∷ cs) = if covers c then label c else first_label covers label unmapped cs

-- The number of the label of an offset, by the first claim that covers it.
abbrev pub offset_label : ℕ → List Load → ℕ → List Claim → ℕ → ℕ
offset_label len loads unmapped claims o =
    first_label (λ (c : Claim). covers_offset len loads c.side c.vm c.file o) (λ (c : Claim). c.label) unmapped claims

-- The number of the label of an address of a space, by the first claim that covers it.
abbrev pub address_label : ℕ → List Load → ℕ → List Claim → ℕ → ℕ → ℕ
address_label len loads unmapped claims space x =
    first_label (λ (c : Claim). covers_address len loads c.side c.vm c.file space x) (λ (c : Claim). c.label) unmapped claims

-- The labelling of the offsets below the length of the file.
abbrev pub offset_labelling : ℕ → List Load → ℕ → List Claim → ℕ → Option ℕ
offset_labelling len loads unmapped claims o =
    if nat_lt o len then Some (offset_label len loads unmapped claims o) else None

-- The labelling of the mapped positions.
abbrev pub address_labelling : ℕ → List Load → ℕ → List Claim → ℕ → Option ℕ
address_labelling len loads unmapped claims p =
    if is_mapped loads p then Some (address_label len loads unmapped claims (space_of p) (address_of p)) else None
