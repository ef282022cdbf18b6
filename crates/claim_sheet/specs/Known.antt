-- Claims of a sheet by their positions, in the order in which they were added.
use Rattle.std.specs.Prelude.{◌≡◌, ℕ, ◌-◌, ◌<◌, ◌≤◌, false, nat_lt, List, [], Option, None, Some, drop, get_or, length, map, take, if◌then◌else◌}
use Rattle.std.specs.List.{filter}
use Rattle.size_model.specs.declared.view.LabelledClaim.{LabelledClaim}
use Rattle.claim_sheet.specs.declared.known.KnownLabel.{KnownLabel}
use Rattle.claim_sheet.specs.declared.labels.ClaimLabel.{ClaimLabel}
use Rattle.claim_sheet.specs.declared.labels.ClaimLabel.TheVariants.{Text, OfClaim}
use Rattle.claim_sheet.specs.Reaches.{wrapped}
use Rattle.claim_sheet.specs.Sheets.{Sheet, is_taken}

-- The label of the claim at a position. It is empty if there is no such claim.
abbrev pub label_at : List LabelledClaim → ℕ → List ℕ
label_at made i = get_or (map (λ c. c.label) made) i []

-- The label that a claim gets.
abbrev pub label_text : List LabelledClaim → ClaimLabel → List ℕ
label_text made (Text text wrap) = wrapped wrap text.now
label_text made (OfClaim i) = label_at made i

-- If the label is that of a claim, there is such a claim.
abbrev pub HasClaim : List LabelledClaim → ClaimLabel → Type 0
HasClaim made (Text text wrap) = Unit {0}
HasClaim made (OfClaim i) = i < length made

-- There is a claim at this position, and it has this label.
pub record HasLabel (made : List LabelledClaim) (label : List ℕ) (i : ℕ) : Type 0 where
  pub within : i < length made
  pub is : label_at made i ≡ label

-- The position, if there is one, is that of a claim with this label.
abbrev pub IsKnownBy : List LabelledClaim → List ℕ → Option ℕ → Type 0
IsKnownBy made label None = Unit {0}
IsKnownBy made label (Some i) = HasLabel made label i

-- The claim of a known label, if it has one, has this label.
abbrev pub IsKnown : List LabelledClaim → KnownLabel → Type 0
IsKnown made known = IsKnownBy made known.text.now known.claim

-- The position of the claim that was added, if the list of claims grew.
abbrev pub position_added : List LabelledClaim → List LabelledClaim → Option ℕ
position_added before after = if nat_lt (length before) (length after) then Some (length before) else None

-- The position of a claim with a label: the one that was known before, or else that of the claim that was added, if
-- one was.
abbrev pub position_known : Option ℕ → List LabelledClaim → List LabelledClaim → Option ℕ
position_known (Some i) before after = Some i
position_known None before after = position_added before after

-- The claims from one position up to another.
abbrev pub claims_between : List LabelledClaim → ℕ → ℕ → List LabelledClaim
claims_between made first end = take (end - first) (drop first made)

-- These claims were added, and those that the sheet takes are at these positions. If there were more than the limit,
-- nothing is known of the claims at these positions.
pub record AreAdded (s : Sheet) (first end : ℕ) (claims : List LabelledClaim) : Type 0 where
  pub order : first ≤ end
  pub within : end ≤ length s.made
  pub are : s.over ≡ false → claims_between s.made first end ≡ filter (λ c. is_taken s.addresses_only c.side) claims
