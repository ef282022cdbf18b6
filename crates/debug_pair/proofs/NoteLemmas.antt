-- The notes of an area, one after another.
use Rattle.std.proofs.Common.{◌≡◌, ℕ, zero, suc, ◌<◌, ◌≤◌, Bool, true, false, List, [], ◌∷◌, length, refl, ap, ◌∙◌, arith}
use Rattle.std.proofs.lemmas.Grind.{common_steps}
use Rattle.byte_cursor.specs.declared.order.Order.{Order}
use Rattle.debug_pair.specs.Notes.{NoteRecord, after_note, has_note, note_of, notes, notes_within}

-- A note has at least twelve bytes.
shorter : (order : Order) (area : List ℕ) → has_note order area ≡ true → length (after_note order area) < length area
unfolding has_note after_note
shorter order area has = grind (arith, common_steps)

-- No note fits into an empty area.
pub none_in : (order : Order) (area : List ℕ) → length area ≡ 0 → has_note order area ≡ false
unfolding has_note
none_in order area none = grind (arith, common_steps)

-- A larger bound changes nothing if the bound is enough.
pub same_fuel : (order : Order) (m n : ℕ) (area : List ℕ) → length area ≤ m → length area ≤ n → notes_within m order area ≡ notes_within n order area
unfolding notes_within
same_fuel order zero zero area p q = refl
same_fuel order zero (suc n) area p q = let none = none_in order area (omega arith) in rw none refl
same_fuel order (suc m) zero area p q = let none = none_in order area (omega arith) in rw none refl
same_fuel order (suc m) (suc n) area p q = by_note (λ rest less. same_fuel order m n rest (omega arith) (omega arith)) (has_note order area) refl
  where
    by_note : ((rest : List ℕ) → length rest < length area → notes_within m order rest ≡ notes_within n order rest) → (has : Bool) → has_note order area ≡ has
        → notes_within (suc m) order area ≡ notes_within (suc n) order area
    by_note rests false is = rw is refl
    by_note rests true is = rw (is, rests (after_note order area) (shorter order area is)) refl

one_within : (order : Order) (fuel : ℕ) (area : List ℕ) → has_note order area ≡ true → notes_within (suc fuel) order area ≡ note_of order area ∷ notes_within fuel order (after_note order area)
unfolding notes_within
one_within order fuel area has = rw has refl

none_within : (order : Order) (fuel : ℕ) (area : List ℕ) → has_note order area ≡ false → notes_within fuel order area ≡ []
unfolding notes_within
none_within order zero area has = refl
none_within order (suc fuel) area has = rw has refl

-- If no note fits, there are no notes.
pub none_left : (order : Order) (area : List ℕ) → has_note order area ≡ false → notes order area ≡ []
unfolding notes
none_left order area has = none_within order (length area) area has

-- After a note come the notes of the bytes after it.
pub one_more : (order : Order) (area : List ℕ) → has_note order area ≡ true → notes order area ≡ note_of order area ∷ notes order (after_note order area)
unfolding notes
one_more order area has =
    let less = shorter order area has in
    same_fuel order (length area) (suc (length area)) area (omega arith) (omega arith) ∙ one_within order (length area) area has
    ∙ ap (λ (rest : List NoteRecord). note_of order area ∷ rest) (same_fuel order (length area) (length (after_note order area)) (after_note order area) (omega arith) (omega arith))
