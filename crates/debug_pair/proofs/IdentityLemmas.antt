-- The first build ID among notes and among areas.
use Rattle.std.proofs.Common.{◌≡◌, ℕ, ◌+◌, ◌-◌, ◌<◌, ◌≤◌, true, false, List, [], ◌∷◌, ◌++◌, Option, Some, None, refl, ap, ◌∙◌, arith}
use Rattle.std.proofs.lemmas.List.{append-nil}
use Rattle.std.proofs.lemmas.List.Folds.{find-append}
use Rattle.std.proofs.lemmas.Grind.{flat_map-append}
use Rattle.std.specs.List.{find, flat_map}
use Rattle.std.specs.Option.{option_map, option_or}
use Rattle.size_core.specs.Gather.{gather}
use Rattle.size_core.proofs.Gathered.{gather_next}
use Rattle.byte_cursor.specs.declared.order.Order.{Order}
use Rattle.debug_pair.specs.Notes.{NoteRecord, notes}
use Rattle.debug_pair.specs.Identities.{build_id, is_build_id}

-- The build ID among these notes.
abbrev pub first_id : List NoteRecord → Option (List ℕ)
first_id ns = option_map (λ n. n.content) (find is_build_id ns)

pub in_area : (order : Order) (area : List ℕ) → build_id order (area ∷ []) ≡ first_id (notes order area)
unfolding build_id
in_area order area = ap first_id (append-nil (notes order area))

pub found_here : (n : NoteRecord) (ns : List NoteRecord) → is_build_id n ≡ true → first_id (n ∷ ns) ≡ Some n.content
found_here n ns is = rw is refl

pub found_later : (n : NoteRecord) (ns : List NoteRecord) → is_build_id n ≡ false → first_id (n ∷ ns) ≡ first_id ns
found_later n ns is = rw is refl

pub found_none : first_id [] ≡ None
found_none = refl

pub no_area : (order : Order) → build_id order [] ≡ None
unfolding build_id
no_area order = refl

-- The build ID of the first areas, or else that of the others.
pub build_id_append : (order : Order) (xs ys : List (List ℕ)) → build_id order (xs ++ ys) ≡ option_or (build_id order xs) (build_id order ys)
unfolding build_id
build_id_append order xs ys =
    rw (flat_map-append (notes order) xs ys, find-append is_build_id (flat_map (notes order) xs) (flat_map (notes order) ys))
    (either (find is_build_id (flat_map (notes order) xs)) (find is_build_id (flat_map (notes order) ys)))
  where
    either : (x y : Option NoteRecord) → option_map (λ n. n.content) (option_or x y) ≡ option_or (option_map (λ n. n.content) x) (option_map (λ n. n.content) y)
    either None y = refl
    either (Some x) y = refl

area_next : (order : Order) (f : ℕ → List (List ℕ)) (n i : ℕ) → i < n
    → build_id order (gather f i (n - i)) ≡ option_or (build_id order (f i)) (build_id order (gather f (i + 1) (n - (i + 1))))
area_next order f n i lt = ap (build_id order) (gather_next [] f n i lt) ∙ build_id_append order (f i) (gather f (i + 1) (n - (i + 1)))

-- The build ID over a range of section or segment numbers.
pub area_here : (order : Order) (f : ℕ → List (List ℕ)) (n i : ℕ) (id : List ℕ) → i < n → build_id order (f i) ≡ Some id → build_id order (gather f i (n - i)) ≡ Some id
area_here order f n i id lt is = area_next order f n i lt ∙ ap (λ (x : Option (List ℕ)). option_or x (build_id order (gather f (i + 1) (n - (i + 1))))) is

pub area_later : (order : Order) (f : ℕ → List (List ℕ)) (n i : ℕ) → i < n → build_id order (f i) ≡ None
    → build_id order (gather f i (n - i)) ≡ build_id order (gather f (i + 1) (n - (i + 1)))
area_later order f n i lt is = area_next order f n i lt ∙ ap (λ (x : Option (List ℕ)). option_or x (build_id order (gather f (i + 1) (n - (i + 1))))) is

pub area_end : (order : Order) (f : ℕ → List (List ℕ)) (n i : ℕ) → n ≤ i → build_id order (gather f i (n - i)) ≡ None
unfolding build_id gather
area_end order f n i le = let k : n - i ≡ 0 = omega arith in rw k refl
