-- Sizes of lists of one number, and these before the sizes of other lists.
use Rattle.std.proofs.Common.{◌^◌, ◌≡◌, ◌+◌, ◌-◌, ◌<◌, ℕ, List, [], ◌∷◌, ◌++◌, length, get_or, set, map, sym, ap, ◌∙◌, inl, inr, refl, arith}
use Rattle.std.proofs.lemmas.List.{append_assoc, get_or-append-add, get_or_append_left, get_or-map, length-append, map-set, set-append_left, set-append_right}
use Rattle.rollup.specs.declared.cursor.Part.{Part}
use Rattle.rollup.specs.declared.sizes.LabelSize.{LabelSize}
use Rattle.rollup.specs.declared.sizes.Sizes.{Sizes}
use Rattle.rollup.specs.Sizes.{Entry, IsGrown, IsIndexOf, entry_of, entry_of_label, grown, grown_sizes, no_entry, size_in, sizes_of}
use Rattle.rollup.proofs.Gathered.{grown-entry}

pub grown-item : (part : Part) (size : ℕ) (items : List LabelSize) (i : ℕ) (x : LabelSize) (s : Sizes) → i < length items → x ≡ get_or items i x → s ≡ grown_sizes part size x.sizes
    → map entry_of_label (set items i (record { label = x.label; sizes = s })) ≡ set (map entry_of_label items) i (grown part size (get_or (map entry_of_label items) i no_entry))
grown-item part size items i x s within is larger =
    let numbers = x.label ∷ [] in
    let here : get_or (map entry_of_label items) i no_entry ≡ entry_of numbers x.sizes = get_or-map entry_of_label items i x no_entry within ∙ ap entry_of_label (sym is) in
    map-set entry_of_label items i (record { label = x.label; sizes = s })
    ∙ ap (set (map entry_of_label items) i) (ap (entry_of numbers) larger ∙ (grown-entry part size numbers x.sizes ∙ ap (grown part size) (sym here)))

-- If a size can be added to each entry, it can be added to each later one.
pub fits-later : (part : Part) (size : ℕ) (xs ys : List Entry) → ((i : ℕ) → size_in part (get_or (xs ++ ys) i no_entry) + size < 2 ^ 128)
    → (i : ℕ) → size_in part (get_or ys i no_entry) + size < 2 ^ 128
fits-later part size xs ys fits i = omega (arith, fits (length xs + i), ap (size_in part) (get_or-append-add xs ys i no_entry))

-- An entry before others grows.
pub grows-before : (part : Part) (numbers : List ℕ) (size : ℕ) (xs ys new : List Entry) (i : ℕ) → IsIndexOf numbers xs i → new ≡ set xs i (grown part size (get_or xs i no_entry))
    → IsGrown part numbers size (xs ++ ys) (new ++ ys)
grows-before part numbers size xs ys new i found made =
    let here : get_or (xs ++ ys) i no_entry ≡ get_or xs i no_entry = get_or_append_left xs ys no_entry i found.within in
    inl (
      i,
      record {
        within = omega (arith, found.within, length-append xs ys);
        there = ap (λ (e : Entry). e.numbers) here ∙ found.there;
        set = ap (λ es. es ++ ys) made ∙ (sym (set-append_left xs ys i (grown part size (get_or xs i no_entry)) found.within)
            ∙ ap (λ (e : Entry). set (xs ++ ys) i (grown part size e)) (sym here));
      },
    )

-- An entry after others grows.
pub grows-after : (part : Part) (numbers : List ℕ) (size : ℕ) (xs ys new : List Entry) → IsGrown part numbers size ys new → IsGrown part numbers size (xs ++ ys) (xs ++ new)
grows-after part numbers size xs ys new (inl (i, at)) =
    let here : get_or (xs ++ ys) (length xs + i) no_entry ≡ get_or ys i no_entry = get_or-append-add xs ys i no_entry in
    inl (
      length xs + i,
      record {
        within = omega (arith, at.within, length-append xs ys);
        there = ap (λ (e : Entry). e.numbers) here ∙ at.there;
        set = ap (λ es. xs ++ es) at.set ∙ (sym (set_after xs ys i (grown part size (get_or ys i no_entry)))
            ∙ ap (λ (e : Entry). set (xs ++ ys) (length xs + i) (grown part size e)) (sym here));
      },
    )
  where
    set_after : (xs ys : List Entry) (j : ℕ) (e : Entry) → set (xs ++ ys) (length xs + j) e ≡ xs ++ set ys j e
    set_after xs ys j e =
        let back : length xs + j - length xs ≡ j = omega arith in
        set-append_right xs ys (length xs) (length xs + j) e refl (omega arith) ∙ ap (λ k. xs ++ set ys k e) back
grows-after part numbers size xs ys new (inr last) = inr (ap (λ es. xs ++ es) last ∙ sym (append_assoc xs ys (entry_of numbers (sizes_of part size) ∷ [])))
