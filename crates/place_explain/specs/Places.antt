-- Bytes of a file, the claims that cover them, and their labels.
use Rattle.std.specs.Prelude.{ℕ, Bool, nat_lt, List}
use Rattle.size_core.specs.declared.claim.Claim.{Claim}
use Rattle.size_core.specs.declared.claim.Load.{Load}
use Rattle.size_core.specs.declared.claim.Side.{Side}
use Rattle.size_core.specs.declared.claim.Span.{Span}
use Rattle.size_core.specs.declared.place.Place.{Place}
use Rattle.size_core.specs.declared.place.Place.TheVariants.{Offset, Address}
use Rattle.size_model.specs.Claims.{covers_offset, covers_address}
use Rattle.size_model.specs.Loads.{mapped}
use Rattle.size_model.specs.Sizes.{label_of_offset, label_of_address}
use Rattle.size_model.specs.declared.view.FileView.{FileView}
use Rattle.size_model.specs.declared.view.LabelledClaim.{LabelledClaim}
use Rattle.size_model.specs.declared.view.SourceView.{SourceView}

-- Whether a byte belongs to a file of this length: its offset is below the length, or its address is mapped.
abbrev pub is_inside : ℕ → List Load → Place → Bool
is_inside len loads (Offset o) = nat_lt o len
is_inside len loads (Address space x) = mapped loads space x

-- Whether a claim with this side, VM span and file span covers a byte, given by its offset or its address.
abbrev pub covers_place : ℕ → List Load → Place → Side → Span → Span → Bool
covers_place len loads (Offset o) side vm file = covers_offset len loads side vm file o
covers_place len loads (Address space x) side vm file = covers_address len loads side vm file space x

-- Whether a claim covers a byte.
abbrev pub claim_covers : ℕ → List Load → Place → Claim → Bool
claim_covers len loads spot c = covers_place len loads spot c.side c.vm c.file

-- Whether a claim with the text of its label covers a byte.
abbrev pub labelled_covers : ℕ → List Load → Place → LabelledClaim → Bool
labelled_covers len loads spot c = covers_place len loads spot c.side c.vm c.file

-- The label that a data source gives a byte.
abbrev pub place_label : FileView → Place → SourceView → List ℕ
place_label f (Offset o) s = label_of_offset f o s
place_label f (Address space x) s = label_of_address f space x s
