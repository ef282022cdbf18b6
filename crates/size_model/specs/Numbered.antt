-- Claims whose labels are numbers, and the same claims with the labels of a pool.
use Rattle.std.specs.Prelude.{ℕ, List, [], map, get_or}
use Rattle.size_core.specs.declared.claim.Claim.{Claim}
use Rattle.size_model.specs.declared.view.LabelledClaim.{LabelledClaim}
use Rattle.size_model.specs.declared.view.SourceView.{SourceView}

-- The bytes of the label with this number.
abbrev pub text_of : List (List ℕ) → ℕ → List ℕ
text_of pool number = get_or pool number []

-- A claim with the bytes of its label.
abbrev pub labelled : List (List ℕ) → Claim → LabelledClaim
labelled pool c = record { side = c.side; vm = c.vm; file = c.file; label = text_of pool c.label }

-- A data source, from its claims and the label of a byte that no claim covers, both by number.
abbrev pub numbered_view : List (List ℕ) → List Claim → ℕ → SourceView
numbered_view pool claims unmapped = record { claims = map (labelled pool) claims; unmapped = text_of pool unmapped }
