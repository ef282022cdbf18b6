-- One more label, and more claims on the sheet.
use Rattle.std.proofs.Common.{◌≡◌, ℕ, ◌==◌, Bool, true, false, List, Option, Some, None, IfSome, refl, sym, subst, ◌∙◌, eqb-true}
use Rattle.std.proofs.lemmas.List.{nil_from_length}
use Rattle.std.specs.BTreeMap.{BTreeMap, IsEmpty, IsUnchanged, Updates, btree_map_len, get, is_at}
use Rattle.std.specs.Cmp.{unsigned_tied}
use Rattle.std.specs.Ordering.{nat_cmp}
use Rattle.size_model.specs.declared.view.LabelledClaim.{LabelledClaim}
use Rattle.byte_cursor.specs.Numbers.{text}
use Rattle.claim_sheet.specs.declared.known.KnownLabel.{KnownLabel}
use Rattle.claim_sheet.specs.Known.{IsKnown}
use Rattle.claim_sheet.specs.Sheets.{Sheet, adding}
use Rattle.claim_sheet.proofs.KnownLemmas.{known_after as label_after}
use Rattle.claim_sheet.specs.declared.long_names.LongNames.{LongNames}
use Rattle.claim_sheet.specs.LongNames.{AreKnownNames, AreNames, label_at}

abbrev Labels : Type 0
Labels = BTreeMap ℕ KnownLabel

-- no labels
pub empty_at : (names : LongNames) (offset : ℕ) → btree_map_len names.labels ≡ 0 → label_at names offset ≡ None
empty_at names offset none = rw (nil_from_length names.labels.entries none) refl

-- a label that is found is that of its offset
pub found_name : (names : LongNames) (offset : ℕ) (found : Option KnownLabel) → AreNames names → found ≡ label_at names offset → IfSome found (λ l. text names.file.now offset ≡ Some l.text.now)
found_name names offset None are is = tt
found_name names offset (Some l) are is = are.each offset l (sym is)

pub found_known : (made : List LabelledClaim) (names : LongNames) (offset : ℕ) (found : Option KnownLabel) → AreKnownNames made names → found ≡ label_at names offset → IfSome found (λ l. IsKnown made l)
found_known made names offset None known is = tt
found_known made names offset (Some l) known is = known.each offset l (sym is)

pub no_names : (names : LongNames) → IsEmpty names.labels → AreNames names
no_names names empty = record { each = λ offset label is. cc (rw empty at is) }

pub none_known : (made : List LabelledClaim) (names : LongNames) → IsEmpty names.labels → AreKnownNames made names
none_known made names empty = record { each = λ offset label is. cc (rw empty at is) }

-- the same labels
pub names_same : (old new : LongNames) → new.file.now ≡ old.file.now → IsUnchanged old.labels new.labels → AreNames old → AreNames new
names_same old new file same names = record { each = λ offset label is. rw file (names.each offset label (rw same at is)) }

-- what holds of each label holds after one more, if it holds of that one
each_put : (P : ℕ → KnownLabel → Type 0) (old new : Labels) (offset : ℕ) (label : KnownLabel) → Updates nat_cmp old new offset (Some label)
    → ((n : ℕ) (l : KnownLabel) → get nat_cmp old n ≡ Some l → P n l) → P offset label → (n : ℕ) (l : KnownLabel) → get nat_cmp new n ≡ Some l → P n l
each_put P old new offset label updates each here n l is = by_offset (offset == n) refl
  where
    by_offset : (b : Bool) → (offset == n) ≡ b → P n l
    by_offset true same =
        let tied : is_at (nat_cmp offset) n ≡ true = unsigned_tied offset n ∙ same in
        let got : get nat_cmp new n ≡ Some label = rw tied at (updates.0 n) in
        let put : label ≡ l = cc (got, is) in
        subst (λ (m : ℕ). P m l) (eqb-true offset n same) (subst (P offset) put here)
    by_offset false other =
        let tied : is_at (nat_cmp offset) n ≡ false = unsigned_tied offset n ∙ other in
        let got : get nat_cmp new n ≡ get nat_cmp old n = rw tied at (updates.0 n) in
        each n l (sym got ∙ is)

pub names_put : (old new : LongNames) (offset : ℕ) (label : KnownLabel) → new.file.now ≡ old.file.now → Updates nat_cmp old.labels new.labels offset (Some label) → AreNames old
    → text old.file.now offset ≡ Some label.text.now → AreNames new
names_put old new offset label file updates names here = record {
  each = rw file (each_put (λ (n : ℕ) (l : KnownLabel). text old.file.now n ≡ Some l.text.now) old.labels new.labels offset label updates names.each here);
}

pub known_put : (made : List LabelledClaim) (old new : LongNames) (offset : ℕ) (label : KnownLabel) → Updates nat_cmp old.labels new.labels offset (Some label) → AreKnownNames made old
    → IsKnown made label → AreKnownNames made new
known_put made old new offset label updates known here = record {
  each = each_put (λ (n : ℕ) (l : KnownLabel). IsKnown made l) old.labels new.labels offset label updates known.each here;
}

-- labels that are known before claims are added are known after that
pub known_after : (s t : Sheet) (xs : List LabelledClaim) (names : LongNames) → t ≡ adding s xs → AreKnownNames s.made names → AreKnownNames t.made names
known_after s t xs names e known = record {
  each = λ offset label is. label_after s t xs label.text.now label.claim e (known.each offset label is);
}
