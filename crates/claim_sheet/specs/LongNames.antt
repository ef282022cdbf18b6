-- The labels of names of a file, by the file offsets of the names.
use Rattle.std.specs.Prelude.{◌≡◌, ℕ, List, Option, Some}
use Rattle.std.specs.BTreeMap.{get}
use Rattle.std.specs.Ordering.{nat_cmp}
use Rattle.size_model.specs.declared.view.LabelledClaim.{LabelledClaim}
use Rattle.byte_cursor.specs.Numbers.{text}
use Rattle.claim_sheet.specs.declared.known.KnownLabel.{KnownLabel}
use Rattle.claim_sheet.specs.Known.{IsKnown}
use Rattle.claim_sheet.specs.declared.long_names.LongNames.{LongNames}

-- The label that is kept for a file offset, if there is one.
abbrev pub label_at : LongNames → ℕ → Option KnownLabel
label_at names offset = get nat_cmp names.labels offset

-- Each label is the name at its offset: the bytes from there up to the next zero byte.
pub record AreNames (names : LongNames) : Type 0 where
  pub each : (offset : ℕ) (label : KnownLabel) → label_at names offset ≡ Some label → text names.file.now offset ≡ Some label.text.now

-- If a label has a claim, the claim has this label.
pub record AreKnownNames (made : List LabelledClaim) (names : LongNames) : Type 0 where
  pub each : (offset : ℕ) (label : KnownLabel) → label_at names offset ≡ Some label → IsKnown made label
