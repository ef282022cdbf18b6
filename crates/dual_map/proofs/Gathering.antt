-- The stretches that are made of the pieces of a cut.
use Rattle.std.proofs.Common.{◌≡◌, ◌+◌, ◌-◌, ◌*◌, ◌/◌, ◌%◌, ◌^◌, ◌<◌, ◌≤◌, ℕ, zero, suc, Bool, true, false, cond, ltb, ◌||◌, List, [], ◌∷◌, map, Option, None, Some, length, get_or, refl, sym, ap, ◌∙◌, inl, inr, arith}
use Rattle.std.proofs.lemmas.Bool.Decides.{nat_tests}
use Rattle.std.proofs.lemmas.Bool.{cases_lt}
use Rattle.std.proofs.lemmas.Option.{none-some}
use Rattle.std.proofs.lemmas.List.Elements.{All-head, All-tail, All-filter, All-map}
use Rattle.std.proofs.lemmas.Map.Views.{any-filter_same}
use Rattle.std.specs.List.{All, list_any}
use Rattle.size_core.specs.declared.claim.Load.{Load}
use Rattle.size_model.specs.declared.piece.Piece.{Piece}
use Rattle.size_model.specs.Cut.{end_of, has, label_in, IsTidy, IsCut}
use Rattle.size_model.specs.Loads.{load_len, addr, place_in, is_mapped, space_of, address_of, load_has_address}
use Rattle.range_map.specs.Ranges.{EndsBy}
use Rattle.range_map.proofs.Pieces.{EndsBy-get}
use Rattle.range_map.proofs.LookUp.{label_at-get}
use Rattle.dual_map.specs.declared.stretch.Stretch.{Stretch}
use Rattle.dual_map.specs.Layout.{load_of_offset, load_of_position}
use Rattle.dual_map.specs.Way.{Way, ToFile, ToMemory, InMemory, position_if_any, position_of_load, source_of, stretch_of, stretches_of, some_of, load_of, no_load, first_of, has_target, Carries, IsPieceOf}
use Rattle.dual_map.proofs.Carrying.{Sound, target_bounds, has_target-in}
use Rattle.dual_map.proofs.LoadLemmas.{first_covers_offset, offset_bounds, addr_none, first_covers_address, address_bounds, unmapped, placed_mapped}

-- A stretch is sound, and it has each number of its piece that has a source.
pub record Fits (source : ℕ → Option ℕ) (make : Piece → Stretch) (p : Piece) : Type 0 where
  pub inside : (y : ℕ) → has_target (make p) y ≡ true → source y ≡ Some ((make p).source + (y - (make p).target))
  pub covered : (y v : ℕ) → has p y ≡ true → source y ≡ Some v → has_target (make p) y ≡ true

any_step : (b c d e : Bool) → (b ≡ true → d ≡ true) → (c ≡ true → e ≡ true) → b || c ≡ true → d || e ≡ true
any_step true c true e f g h = refl
any_step true c false e f g h = absurd (let k = f refl in cc)
any_step false c true e f g h = refl
any_step false c false e f g h = g h

any_target : (source : ℕ → Option ℕ) (make : Piece → Stretch) (ps : List Piece) (y v : ℕ) → All (Fits source make) ps → source y ≡ Some v → list_any (λ (p : Piece). has p y) ps ≡ true → list_any (λ (s : Stretch). has_target s y) (map make ps) ≡ true
any_target source make [] y v a e h = h
any_target source make (p ∷ ps) y v a e h =
    any_step (has p y) (list_any (λ (p : Piece). has p y) ps) (has_target (make p) y) (list_any (λ (s : Stretch). has_target s y) (map make ps)) (λ b. (All-head (Fits source make) p ps a).covered y v b e) (any_target source make ps y v (All-tail (Fits source make) p ps a) e) h

target_some : (s : Stretch) (y : ℕ) → has_target s y ≡ true → ltb 0 s.len ≡ true
target_some s y e = let b = target_bounds s y e in let l : 0 < s.len = omega arith in grind (arith, nat_tests)

Carries-made : (source : ℕ → Option ℕ) (make : Piece → Stretch) (ps : List Piece) → All (Fits source make) ps → ((y v : ℕ) → source y ≡ Some v → list_any (λ (p : Piece). has p y) ps ≡ true) → Carries source (some_of (map make ps))
Carries-made source make ps a h = record {
  sound = All-filter (λ (s : Stretch). ltb 0 s.len) (Sound source) (map make ps) (All-map (Sound source) make ps (λ k d l. (a k d l).inside));
  whole = λ y v e.
      any-filter_same (λ (s : Stretch). has_target s y) (λ (s : Stretch). ltb 0 s.len) true (λ s t. target_some s y t) (map make ps) ∙ any_target source make ps y v a e (h y v e);
}

has_bounds : (p : Piece) (y : ℕ) → has p y ≡ true → (p.start ≤ y) × (y < end_of p)
has_bounds p y e = (grind (arith, nat_tests), grind (arith, nat_tests))

pub has_from : (p : Piece) (y : ℕ) → p.start ≤ y → y < end_of p → has p y ≡ true
has_from p y a b = grind (arith, nat_tests)

-- A position that has a label lies in a piece.
any_piece : (ps : List Piece) (y i : ℕ) → label_in ps y ≡ Some i → list_any (λ (p : Piece). has p y) ps ≡ true
any_piece [] y i e = absurd (none-some i e)
any_piece (p ∷ ps) y i e = step p ps y i (has p y) e (any_piece ps y i)
  where
    step : (p : Piece) (ps : List Piece) (y i : ℕ) (b : Bool) → cond b (Some p.label) (label_in ps y) ≡ Some i → (label_in ps y ≡ Some i → list_any (λ (p : Piece). has p y) ps ≡ true) → b || list_any (λ (p : Piece). has p y) ps ≡ true
    step p ps y i true e h = refl
    step p ps y i false e h = h e

-- The label of a piece's numbers is the piece's.
pub label_of_piece : (labelling : ℕ → Option ℕ) (ps : List Piece) (k : ℕ) (d : Piece) (y : ℕ) → IsCut labelling ps → k < length ps → (get_or ps k d).start ≤ y → y < end_of (get_or ps k d) → labelling y ≡ Some (get_or ps k d).label
label_of_piece labelling ps k d y c l a b = sym (c.labels y) ∙ label_at-get ps k d y c.tidy l a b

any_some : (labelling : ℕ → Option ℕ) (ps : List Piece) (y i : ℕ) → IsCut labelling ps → labelling y ≡ Some i → list_any (λ (p : Piece). has p y) ps ≡ true
any_some labelling ps y i c e = any_piece ps y i (c.labels y ∙ e)

pub some_len : (ps : List Piece) (k : ℕ) (d : Piece) → IsTidy ps → k < length ps → 0 < (get_or ps k d).len
some_len [] k d t l = absurd (omega arith)
some_len (p ∷ ps) zero d t l = t.0
some_len (p ∷ ps) (suc k) d t l = some_len ps k d t.2 (omega arith)

-- The pieces of offsets lie in their loads.
pub offset_pieces : (len : ℕ) (ls : List Load) (ps : List Piece) → len < 2 ^ 63 → IsCut (load_of_offset len ls) ps → All (IsPieceOf ToFile ls) ps
offset_pieces len ls ps small c k d l =
    let p = get_or ps k d in
    let some = some_len ps k d c.tidy l in
    let first = first_covers_offset len ls p.start p.label no_load (label_of_piece (load_of_offset len ls) ps k d p.start c l (omega arith) (omega arith)) in
    let last = first_covers_offset len ls (p.start + (p.len - 1)) p.label no_load (label_of_piece (load_of_offset len ls) ps k d (p.start + (p.len - 1)) c l (omega arith) (omega arith)) in
    let low = offset_bounds len (load_of ls p) p.start first.covers in
    let high = offset_bounds len (load_of ls p) (p.start + (p.len - 1)) last.covers in
    let a = low.0 in
    let b = high.1 in
    let e = high.2 in
    record { within = first.within; lies = record { low = a; high = omega arith; fits = omega arith } }

-- An address of a load, as a position.
record Stands (l : Load) (x : ℕ) : Type 0 where
  low : position_of_load l ≤ x
  high : x < position_of_load l + l.memsz
  address : x ≡ l.space * 2 ^ 64 + address_of x

stands : (l : Load) (x : ℕ) → load_has_address l (space_of x) (address_of x) ≡ true → Stands l x
stands l x e =
    let b = address_bounds l (space_of x) (address_of x) e in
    let s = b.0 in
    let low = b.1 in
    let high = b.2 in
    let split : x ≡ x / 2 ^ 64 * 2 ^ 64 + x % 2 ^ 64 = omega arith in
    let place : x ≡ l.space * 2 ^ 64 + address_of x = split ∙ ap (λ q. q * 2 ^ 64 + x % 2 ^ 64) s in
    record { low = omega arith; high = omega arith; address = place }

-- The pieces of positions lie in their loads.
pub address_pieces : (way : Way) (ls : List Load) (ps : List Piece) → ((l : Load) → first_of way l ≡ position_of_load l) → EndsBy (2 ^ 96) ps → IsCut (load_of_position ls) ps → All (IsPieceOf way ls) ps
address_pieces way ls ps same ends c k d l =
    let p = get_or ps k d in
    let some = some_len ps k d c.tidy l in
    let first = first_covers_address 0 ls p.start p.label no_load (label_of_piece (load_of_position ls) ps k d p.start c l (omega arith) (omega arith)) in
    let last = first_covers_address 0 ls (p.start + (p.len - 1)) p.label no_load (label_of_piece (load_of_position ls) ps k d (p.start + (p.len - 1)) c l (omega arith) (omega arith)) in
    let low = (stands (load_of ls p) p.start first.covers).low in
    let high = (stands (load_of ls p) (p.start + (p.len - 1)) last.covers).high in
    let at = same (load_of ls p) in
    record { within = first.within; lies = record { low = omega arith; high = omega arith; fits = EndsBy-get ps (2 ^ 96) k d ends l } }

pub offset_fits : (len : ℕ) (ls : List Load) (ps : List Piece) → len < 2 ^ 63 → IsCut (load_of_offset len ls) ps → All (Fits (source_of ToFile len ls) (λ p. stretch_of ToFile len (load_of ls p) p)) ps
offset_fits len ls ps small c k d l =
    let p = get_or ps k d in
    let start = (offset_pieces len ls ps small c k d l).lies.low in
    record {
      inside = λ y t.
          let b = has_bounds p y t in
          let low = b.0 in
          let w = first_covers_offset len ls y p.label no_load (label_of_piece (load_of_offset len ls) ps k d y c l b.0 b.1) in
          ap position_if_any w.gives ∙ ap (λ n. Some n) (omega arith);
      covered = λ y v h e. h;
    }

place_in-some : (len : ℕ) (l : Load) (r : ℕ) → r - l.vaddr < load_len l → l.offset + (r - l.vaddr) < len → place_in len l r ≡ Some (l.offset + (r - l.vaddr))
place_in-some len l r a b = grind (arith, nat_tests)

place_in-bounds : (len : ℕ) (l : Load) (r v : ℕ) → place_in len l r ≡ Some v → (r - l.vaddr < load_len l) × (l.offset + (r - l.vaddr) < len)
place_in-bounds len l r v e =
    elim (cases_lt (r - l.vaddr) (load_len l)) [
      | inl a ↦ elim (cases_lt (l.offset + (r - l.vaddr)) len) [
        | inl b ↦ (a, b)
        | inr b ↦ absurd (none-some v (let n : place_in len l r ≡ None = grind (arith, nat_tests) in sym n ∙ e))
      ]
      | inr a ↦ absurd (none-some v (let n : place_in len l r ≡ None = grind (arith, nat_tests) in sym n ∙ e))
    ]

pub memory_fits : (len : ℕ) (ls : List Load) (ps : List Piece) → IsCut (load_of_position ls) ps → All (Fits (source_of ToMemory len ls) (λ p. stretch_of ToMemory len (load_of ls p) p)) ps
memory_fits len ls ps c k d l =
    let p = get_or ps k d in
    let q = load_of ls p in
    let some = some_len ps k d c.tidy l in
    let first = first_covers_address 0 ls p.start p.label no_load (label_of_piece (load_of_position ls) ps k d p.start c l (omega arith) (omega arith)) in
    let start = (stands q p.start first.covers).low in
    record {
      inside = λ y t.
          let b = target_bounds (stretch_of ToMemory len q p) y t in
          let low = b.0 in
          let high = b.1 in
          let w = first_covers_address len ls y p.label no_load (label_of_piece (load_of_position ls) ps k d y c l b.0 (omega arith)) in
          let at = (stands q y w.covers).address in
          let past = (stands q y w.covers).low in
          w.gives ∙ (place_in-some len q (address_of y) (omega arith) (omega arith) ∙ ap (λ n. Some n) (omega arith));
      covered = λ y v h e.
          let b = has_bounds p y h in
          let low = b.0 in
          let high = b.1 in
          let w = first_covers_address len ls y p.label no_load (label_of_piece (load_of_position ls) ps k d y c l b.0 b.1) in
          let at = (stands q y w.covers).address in
          let past = (stands q y w.covers).low in
          let bounds = place_in-bounds len q (address_of y) v (sym w.gives ∙ e) in
          let first = bounds.0 in
          let second = bounds.1 in
          has_target-in (stretch_of ToMemory len q p) y low (omega arith);
    }

still_fits : (len : ℕ) (ls : List Load) (ps : List Piece) → IsCut (load_of_position ls) ps → All (Fits (source_of InMemory len ls) (λ p. stretch_of InMemory len (load_of ls p) p)) ps
still_fits len ls ps c k d l =
    let p = get_or ps k d in
    record {
      inside = λ y t.
          let b = has_bounds p y t in
          let low = b.0 in
          let w = first_covers_address len ls y p.label no_load (label_of_piece (load_of_position ls) ps k d y c l b.0 b.1) in
          ap (λ b. cond b (Some y) None) w.is_mapped ∙ ap (λ n. Some n) (omega arith);
      covered = λ y v h e. h;
    }

some_load : (len : ℕ) (ls : List Load) (o v : ℕ) (found : Option ℕ) → load_of_offset len ls o ≡ found → position_if_any (addr len ls o) ≡ Some v → (i : ℕ) × (found ≡ Some i)
some_load len ls o v None e h = absurd (none-some v (sym (ap position_if_any (addr_none len 0 ls o e)) ∙ h))
some_load len ls o v (Some i) e h = (i, refl)

some_mapped : (ls : List Load) (x : ℕ) (found : Option ℕ) → load_of_position ls x ≡ found → is_mapped ls x ≡ true → (i : ℕ) × (found ≡ Some i)
some_mapped ls x None e h = absurd (let n = unmapped 0 ls (space_of x) (address_of x) e in cc)
some_mapped ls x (Some i) e h = (i, refl)

pub Carries-to_file : (len : ℕ) (ls : List Load) (ps : List Piece) → len < 2 ^ 63 → IsCut (load_of_offset len ls) ps → Carries (source_of ToFile len ls) (stretches_of ToFile len ls ps)
Carries-to_file len ls ps small c =
    Carries-made (source_of ToFile len ls) (λ p. stretch_of ToFile len (load_of ls p) p) ps (offset_fits len ls ps small c) (λ y v e.
    let w = some_load len ls y v (load_of_offset len ls y) refl e in
    any_some (load_of_offset len ls) ps y w.0 c w.1)

pub Carries-to_memory : (len : ℕ) (ls : List Load) (ps : List Piece) → IsCut (load_of_position ls) ps → Carries (source_of ToMemory len ls) (stretches_of ToMemory len ls ps)
Carries-to_memory len ls ps c =
    Carries-made (source_of ToMemory len ls) (λ p. stretch_of ToMemory len (load_of ls p) p) ps (memory_fits len ls ps c) (λ y v e.
    let w = some_mapped ls y (load_of_position ls y) refl (placed_mapped len ls (space_of y) (address_of y) v e) in
    any_some (load_of_position ls) ps y w.0 c w.1)

if_mapped : (b : Bool) (y v : ℕ) → cond b (Some y) None ≡ Some v → b ≡ true
if_mapped true y v e = refl
if_mapped false y v e = absurd (none-some v e)

pub Carries-in_memory : (len : ℕ) (ls : List Load) (ps : List Piece) → IsCut (load_of_position ls) ps → Carries (source_of InMemory len ls) (stretches_of InMemory len ls ps)
Carries-in_memory len ls ps c =
    Carries-made (source_of InMemory len ls) (λ p. stretch_of InMemory len (load_of ls p) p) ps (still_fits len ls ps c) (λ y v e.
    let w = some_mapped ls y (load_of_position ls y) refl (if_mapped (is_mapped ls y) y v e) in
    any_some (load_of_position ls) ps y w.0 c w.1)

length_some : (ss : List Stretch) → length (some_of ss) ≤ length ss
length_some [] = omega arith
length_some (s ∷ ss) = step s ss (ltb 0 s.len) (length_some ss)
  where
    step : (s : Stretch) (ss : List Stretch) (b : Bool) → length (some_of ss) ≤ length ss → length (cond b (s ∷ some_of ss) (some_of ss)) ≤ suc (length ss)
    step s ss true h = omega arith
    step s ss false h = omega arith

length_made : (make : Piece → Stretch) (ps : List Piece) → length (map make ps) ≡ length ps
length_made make [] = refl
length_made make (p ∷ ps) = ap (λ n. suc n) (length_made make ps)

pub length-stretches_of : (way : Way) (len : ℕ) (ls : List Load) (ps : List Piece) → length (stretches_of way len ls ps) ≤ length ps
length-stretches_of way len ls ps =
    omega (arith, length_some (map (λ p. stretch_of way len (load_of ls p) p) ps), length_made (λ p. stretch_of way len (load_of ls p) p) ps)
