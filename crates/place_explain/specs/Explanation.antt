-- The explanation of a byte.
use Rattle.std.specs.Prelude.{ℕ, ◌+◌, Bool, if◌then◌else◌, List, [], ◌∷◌}
use Rattle.size_core.specs.declared.claim.Load.{Load}
use Rattle.size_core.specs.declared.place.Place.{Place}
use Rattle.size_model.specs.Sizes.{with_rewriting}
use Rattle.size_model.specs.declared.view.FileView.{FileView}
use Rattle.size_model.specs.declared.view.LabelledClaim.{LabelledClaim}
use Rattle.size_model.specs.declared.view.SourceView.{SourceView}
use Rattle.place_explain.specs.Numbers.{within_limit, over_limit}
use Rattle.place_explain.specs.Places.{labelled_covers, place_label}
use Rattle.place_explain.specs.declared.named.Explained.{Explained}
use Rattle.place_explain.specs.declared.named.NamedClaim.{NamedClaim}
use Rattle.place_explain.specs.declared.named.PlaceSource.{PlaceSource}

-- A claim with its number.
abbrev pub named : ℕ → LabelledClaim → NamedClaim
named n c = record { number = n; side = c.side; label = c.label }

-- The claims that cover, each with its number in the list. The first claim of the list has the number n.
abbrev pub covering : (LabelledClaim → Bool) → ℕ → List LabelledClaim → List NamedClaim
covering covers n [] = []
covering covers n (c ∷ cs) = if covers c then named n c ∷ covering covers (n + 1) cs else covering covers (n + 1) cs

-- The label of the first of these claims, or else the label for uncovered bytes.
abbrev pub label_of_first : List ℕ → List NamedClaim → List ℕ
label_of_first unmapped [] = unmapped
label_of_first unmapped (c ∷ cs) = c.label

-- The claims of a data source that cover a byte of a file with this length and these loads, in order, counted
-- from 1.
abbrev pub covering_place : ℕ → List Load → Place → SourceView → List NamedClaim
covering_place len loads spot s = covering (labelled_covers len loads spot) 1 s.claims

-- The explanation of a byte by a data source, before labels are rewritten: the label, the claims that cover the byte
-- within a limit, and the number of further ones.
abbrev pub explained : ℕ → List Load → Place → ℕ → SourceView → Explained
explained len loads spot limit s = record {
  label = label_of_first s.unmapped (covering_place len loads spot s);
  claims = within_limit limit (covering_place len loads spot s);
  more = over_limit limit (covering_place len loads spot s);
}

-- An explanation with the data source's name and the rewritten label.
abbrev pub under_name : List ℕ → (List ℕ → List ℕ) → Explained → PlaceSource
under_name name rewritten e = record { name = name; label = rewritten e.label; claims = e.claims; more = e.more }

-- The explanation of a byte of a file by a data source: the data source's name; the label of the byte, rewritten; the
-- claims that cover it, in order, each with its number and its label before the rewrite; and the number of further
-- claims. A limit above 0 keeps the first claim and up to `limit` more.
abbrev pub explanation : FileView → Place → ℕ → List ℕ → (List ℕ → List ℕ) → SourceView → PlaceSource
explanation f spot limit name rewritten s = record {
  name = name;
  label = place_label f spot (with_rewriting rewritten s);
  claims = within_limit limit (covering_place f.len f.loads spot s);
  more = over_limit limit (covering_place f.len f.loads spot s);
}
