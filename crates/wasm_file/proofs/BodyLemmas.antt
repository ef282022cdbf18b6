-- Bodies, one after another.
use Rattle.std.proofs.Common.{◌≡◌, ℕ, ◌+◌, List, [], ◌∷◌, ◌++◌, Ok, map, refl, sym, ap, ◌∙◌, append_assoc}
use Rattle.std.proofs.lemmas.List.{map-append}
use Rattle.size_core.specs.Checks.{Check}
use Rattle.wasm_file.specs.declared.body.Body.{Body}
use Rattle.wasm_file.specs.declared.body.Extent.{Extent}
use Rattle.wasm_file.specs.Functions.{BodyRecord, numbered}
use Rattle.wasm_file.specs.Names.{name_in}
use Rattle.wasm_file.specs.Records.{under}
use Rattle.wasm_file.specs.Shown.{body}

-- The next body, after those that were read.
pub made_more : (names : List (ℕ × List ℕ)) (made : List Body) (b : Body) (now : List Body) (at next : ℕ) (e : Extent) (left rest : List Extent) (total : List BodyRecord)
    → now ≡ made ++ b ∷ [] → next ≡ at + 1 → left ≡ e ∷ rest → body b ≡ record { index = at; place = e.place; len = e.len; name = name_in names at }
    → map body made ++ numbered names at left ≡ total → map body now ++ numbered names next rest ≡ total
made_more names made b now at next e left rest total pushed step first is so_far =
    rw (pushed, step, map-append body made (b ∷ []), append_assoc) (ap (λ (r : BodyRecord). map body made ++ r ∷ numbered names (at + 1) rest) is ∙ sym (ap (λ (xs : List Extent). map body made ++ numbered names at xs) first) ∙ so_far)

-- All of the bodies.
pub made_all : (fault : Check) (made total : List BodyRecord) → fault ≡ Ok tt → made ≡ total → under fault total ≡ Ok made
made_all fault made total fine same = rw (fine, same) refl
