-- Loops over a list.
use Rattle.std.proofs.Common.{◌≡◌, ℕ, ◌+◌, ◌<◌, ◌≤◌, List, [], drop, get_or, length, map, arith}
use Rattle.std.specs.List.{flat_map}
use Rattle.std.proofs.lemmas.List.{drop_all, drop_more, get_or-map, length-map}
use Rattle.size_model.specs.declared.view.LabelledClaim.{LabelledClaim}
use Rattle.claim_sheet.specs.Sheets.{Sheet, adding}
use Rattle.claim_sheet.proofs.LoopLemmas.{list_goes}
use Rattle.claim_sheet.proofs.SheetLemmas.{adding_none}

-- if no item is left, nothing is added
module _ {A : Type 0} (f : A → List LabelledClaim) where
  pub none_left : (s : Sheet) (xs : List A) → xs ≡ [] → adding s (flat_map f xs) ≡ s
  none_left s xs none = rw none (adding_none s)

-- a loop over a list whose items contracts see through a view
module _ {A B : Type 0} (shown : A → B) (f : B → List LabelledClaim) where
  pub shown_goes : (s t : Sheet) (xs : List A) (i : ℕ) (x : A) → i < length xs → t ≡ adding s (f (shown (get_or xs i x)))
      → adding t (flat_map f (drop (i + 1) (map shown xs))) ≡ adding s (flat_map f (drop i (map shown xs)))
  shown_goes s t xs i x lt e =
      let within : i < length (map shown xs) = omega (arith, length-map xs shown) in
      rw (drop_more (map shown xs) i (shown x) within, get_or-map shown xs i x (shown x) lt)
      (list_goes f s t (shown (get_or xs i x)) (drop (i + 1) (map shown xs)) e)

  pub shown_ends : (s : Sheet) (xs : List A) (i : ℕ) → length xs ≤ i → adding s (flat_map f (drop i (map shown xs))) ≡ s
  shown_ends s xs i le =
      let past : length (map shown xs) ≤ i = omega (arith, length-map xs shown) in
      none_left f s (drop i (map shown xs)) (drop_all i (map shown xs) past)
