-- Which offsets and addresses a claim covers.
use Rattle.std.specs.Prelude.{◌+◌, ℕ, Bool, false, ◌&&◌, ◌==◌, nat_le, nat_lt, List, Option, None, Some}
use Rattle.size_core.specs.declared.claim.Load.{Load}
use Rattle.size_core.specs.declared.claim.Span.{Span}
use Rattle.size_core.specs.declared.claim.Side.{Side}
use Rattle.size_core.specs.declared.claim.Side.TheVariants.{File, Vm, Both}
use Rattle.size_model.specs.Loads.{addr, place}

-- A number lies in a span. The space of the span is not compared.
abbrev pub span_has : Span → ℕ → Bool
span_has s x = nat_le s.start x && nat_lt x (s.start + s.len)

-- An address lies in a span and in the span's space. None lies in no span.
abbrev pub address_in : Span → Option (ℕ × ℕ) → Bool
address_in s None = false
address_in s (Some a) = (s.space == a.0) && span_has s a.1

-- An offset lies in a span. None lies in no span.
abbrev pub offset_in : Span → Option ℕ → Bool
offset_in s None = false
offset_in s (Some o) = span_has s o

-- A claim with this side, VM span and file span covers an offset. The VM span of a Vm claim covers the
-- offsets that are loaded into it.
abbrev pub covers_offset : ℕ → List Load → Side → Span → Span → ℕ → Bool
covers_offset len loads File vm file o = span_has file o
covers_offset len loads Vm vm file o = address_in vm (addr len loads o)
covers_offset len loads Both vm file o = span_has file o

-- A claim covers an address. The file span of a File claim covers the addresses that are loaded from it.
abbrev pub covers_address : ℕ → List Load → Side → Span → Span → ℕ → ℕ → Bool
covers_address len loads File vm file space x = offset_in file (place len loads space x)
covers_address len loads Vm vm file space x = address_in vm (Some (space, x))
covers_address len loads Both vm file space x = address_in vm (Some (space, x))
