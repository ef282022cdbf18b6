-- Sizes of lists of numbers, each a part of the numbers of all lists.
use Rattle.std.proofs.Common.{◌≡◌, ◌+◌, ◌<◌, ◌≤◌, ℕ, suc, List, [], ◌∷◌, ◌++◌, length, get_or, set, map, take, drop, refl, sym, ap, ◌∙◌, arith}
use Rattle.std.specs.Prelude.{All}
use Rattle.std.proofs.lemmas.List.{drop-append-le, drop_all, get_or-map, length-drop, map-append, map-set, take-append-le, take_all}
use Rattle.rollup.specs.declared.cursor.Part.{Part}
use Rattle.rollup.specs.declared.sizes.ListSize.{ListSize}
use Rattle.rollup.specs.declared.sizes.Sizes.{Sizes}
use Rattle.rollup.specs.Sizes.{entry_of, entry_of_list, grown, grown_sizes, no_entry}
use Rattle.rollup.proofs.Gathered.{grown-entry}

-- Each list is within the first `n` numbers.
abbrev pub Within : ℕ → List ListSize → Type 0
Within n items = All (λ (s : ListSize). s.first + s.len ≤ n) items

pub grown-list : (part : Part) (size : ℕ) (ns : List ℕ) (items : List ListSize) (i : ℕ) (x : ListSize) (s : Sizes) → i < length items → x ≡ get_or items i x → s ≡ grown_sizes part size x.sizes
    → map (entry_of_list ns) (set items i (record { first = x.first; len = x.len; sizes = s })) ≡ set (map (entry_of_list ns) items) i (grown part size (get_or (map (entry_of_list ns) items) i no_entry))
grown-list part size ns items i x s within is larger =
    let numbers = take x.len (drop x.first ns) in
    let here : get_or (map (entry_of_list ns) items) i no_entry ≡ entry_of numbers x.sizes = get_or-map (entry_of_list ns) items i x no_entry within ∙ ap (entry_of_list ns) (sym is) in
    map-set (entry_of_list ns) items i (record { first = x.first; len = x.len; sizes = s })
    ∙ ap (set (map (entry_of_list ns) items) i) (ap (entry_of numbers) larger ∙ (grown-entry part size numbers x.sizes ∙ ap (grown part size) (sym here)))

kept : (ns xs : List ℕ) (s : ListSize) → s.first + s.len ≤ length ns → entry_of_list (ns ++ xs) s ≡ entry_of_list ns s
kept ns xs s le =
    let first : s.first ≤ length ns = omega (arith, le) in
    let len : s.len ≤ length (drop s.first ns) = omega (arith, le, length-drop s.first ns) in
    ap (λ l. entry_of l s.sizes) (ap (take s.len) (drop-append-le s.first ns xs first) ∙ take-append-le s.len (drop s.first ns) xs len)

all_kept : (ns xs : List ℕ) (items : List ListSize) → Within (length ns) items → map (entry_of_list (ns ++ xs)) items ≡ map (entry_of_list ns) items
all_kept ns xs [] h = refl
all_kept ns xs (s ∷ items) h =
    ap (λ e. e ∷ map (entry_of_list (ns ++ xs)) items) (kept ns xs s (h 0 s (omega arith))) ∙ ap (λ l. entry_of_list ns s ∷ l) (all_kept ns xs items (λ k d lt. h (suc k) d (omega arith)))

-- One more list, whose numbers come after all others.
module _ (ns xs : List ℕ) (items : List ListSize) (s : Sizes) (h : Within (length ns) items) where
  abbrev new : ListSize
  new = record { first = length ns; len = length xs; sizes = s }

  whole : take (length xs) (drop (length ns) (ns ++ xs)) ≡ xs
  whole =
      let all : length ns ≤ length ns = omega arith in
      ap (take (length xs)) (drop-append-le (length ns) ns xs all ∙ ap (λ l. l ++ xs) (drop_all (length ns) ns all)) ∙ take_all (length xs) xs (omega arith)

  pub pushed-list : map (entry_of_list (ns ++ xs)) (items ++ new ∷ []) ≡ map (entry_of_list ns) items ++ entry_of xs s ∷ []
  pushed-list =
      map-append (entry_of_list (ns ++ xs)) items (new ∷ [])
      ∙ (ap (λ l. l ++ entry_of_list (ns ++ xs) new ∷ []) (all_kept ns xs items h) ∙ ap (λ l. map (entry_of_list ns) items ++ entry_of l s ∷ []) whole)
