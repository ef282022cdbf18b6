-- Walks over the pieces of offsets and of positions.
use Rattle.std.proofs.Common.{◌≡◌, ◌+◌, ◌-◌, ◌<◌, ◌≤◌, ◌^◌, ℕ, zero, suc, true, false, cond, ltb, List, [], ◌∷◌, Option, None, Some, length, get_or, slice_get, refl, sym, ap, subst, ◌∙◌, inl, inr, arith}
use Rattle.std.proofs.lemmas.Bool.Decides.{nat_tests}
use Rattle.std.proofs.lemmas.Bool.{cases_lt}
use Rattle.std.proofs.lemmas.Option.{slice_get_within}
use Rattle.std.specs.List.{All}
use Rattle.size_core.specs.declared.claim.Load.{Load}
use Rattle.size_model.specs.declared.piece.Piece.{Piece}
use Rattle.size_model.specs.Cut.{end_of, label_in, IsTidy, IsCut}
use Rattle.size_model.specs.Loads.{addr, place, space_of, address_of, IsLoad}
use Rattle.range_map.specs.Ranges.{EndsBy, IsMap}
use Rattle.range_map.specs.Sweep.{at, no_piece}
use Rattle.range_map.proofs.LookUp.{ordered}
use Rattle.range_map.proofs.Pieces.{label_past, EndsBy-weaker}
use Rattle.dual_map.specs.declared.layers.Layer.{Layer}
use Rattle.dual_map.specs.declared.layers.Layers.{Layers}
use Rattle.dual_map.specs.declared.stretch.Stretch.{Stretch}
use Rattle.dual_map.specs.Layout.{load_of_offset, load_of_position}
use Rattle.dual_map.specs.Paint.{label_of, offset_labels, position_labels, Paints}
use Rattle.dual_map.specs.Runs.{IsPast}
use Rattle.dual_map.specs.Way.{Way, ToFile, ToMemory, IsPieceOf, LiesIn, IsSmall, position_if_any, gap_of, stretch_of, load_of, no_load}
use Rattle.dual_map.proofs.Carrying.{has_target-in, target_bounds}
use Rattle.dual_map.proofs.Gathering.{label_of_piece, offset_fits, memory_fits, offset_pieces, address_pieces, some_len, has_from}
use Rattle.dual_map.proofs.LoadLemmas.{addr_none, first_covers_offset, first_covers_address, offset_bounds, unmapped}
use Rattle.dual_map.proofs.RunLemmas.{label_between, IsPast-weaker, IsPast-next, at_from_get, start_from_get, end_from_get}

-- The first pieces end at or before a position, and the next one starts at or after it.
pub record Reaches (ps : List Piece) (i from : ℕ) : Type 0 where
  pub past : IsPast ps i from
  pub ahead : i < length ps → from ≤ (at ps i).start

pub reaches_next : (ps : List Piece) (i from : ℕ) → IsTidy ps → Reaches ps i from → i < length ps → Reaches ps (i + 1) (end_of (at ps i))
reaches_next ps i from t r l =
    let h = r.ahead l in
    record {
      past = IsPast-next ps i (end_of (at ps i)) (IsPast-weaker ps i from (end_of (at ps i)) r.past (omega arith)) l (omega arith);
      ahead = λ m. ordered ps i (i + 1) no_piece t (omega arith) m;
    }

-- The ranges label all positions before this one.
pub record UpTo (labelling : ℕ → Option ℕ) (to : ℕ) (ps : List Piece) : Type 0 where
  pub ends : EndsBy to ps
  pub pieces : IsMap ps
  pub labels : (x : ℕ) → x < to → label_in ps x ≡ labelling x

-- The targets of a stretch were added.
pub up_to_more : (labelling : ℕ → Option ℕ) (s : Stretch) (label : ℕ → ℕ → ℕ) (old new : List Piece) → UpTo labelling s.target old → Paints s label old new
    → ((k : ℕ) → k < s.len → labelling (s.target + k) ≡ Some (label (s.target + k) (s.source + k))) → UpTo labelling (s.target + s.len) new
up_to_more labelling s label old new u w h = record {
  ends = w.ends;
  pieces = w.pieces;
  labels = λ x l.
      elim (cases_lt x s.target) [
        | inl a ↦ w.before x a ∙ u.labels x a
        | inr a ↦ let e : s.target + (x - s.target) ≡ x = omega arith in
            rw e at (w.filled (x - s.target) (omega arith) ∙ sym (h (x - s.target) (omega arith)))
      ];
}

-- Positions without a label were skipped.
pub up_to_later : (labelling : ℕ → Option ℕ) (from to : ℕ) (ps : List Piece) → from ≤ to → UpTo labelling from ps → ((x : ℕ) → from ≤ x → x < to → labelling x ≡ None) → UpTo labelling to ps
up_to_later labelling from to ps l u h = record {
  ends = EndsBy-weaker ps from to l u.ends;
  pieces = u.pieces;
  labels = λ x m.
      elim (cases_lt x from) [ inl a ↦ u.labels x a | inr a ↦ label_past ps from x u.ends a ∙ sym (h x a m) ];
}

-- Pieces of a map that label exactly as a labelling does.
pub record IsLabelled (labelling : ℕ → Option ℕ) (ps : List Piece) : Type 0 where
  pub pieces : IsMap ps
  pub labels : (x : ℕ) → label_in ps x ≡ labelling x

pub up_to_all : (labelling : ℕ → Option ℕ) (to : ℕ) (ps : List Piece) → UpTo labelling to ps → ((x : ℕ) → to ≤ x → labelling x ≡ None) → IsLabelled labelling ps
up_to_all labelling to ps u h = record {
  pieces = u.pieces;
  labels = λ x.
      elim (cases_lt x to) [ inl a ↦ u.labels x a | inr a ↦ label_past ps to x u.ends a ∙ sym (h x a) ];
}

pub IsCut-labelled : (labelling : ℕ → Option ℕ) (ps : List Piece) → IsLabelled labelling ps → IsCut labelling ps
IsCut-labelled labelling ps l = record { tidy = l.pieces.tidy; labels = l.labels }

-- Offsets that no load covers.
offset_in_gap : (len : ℕ) (ls : List Load) (l : Layers) (ps : List Piece) (i from x y : ℕ) → IsCut (load_of_offset len ls) ps → Reaches ps i from → from ≤ x → (i < length ps → x < (at ps i).start) → x < len
    → offset_labels len ls l x ≡ Some (label_of l.labels.items l.file [] (Some y) x)
offset_in_gap len ls l ps i from x y c r a h b =
    let none : load_of_offset len ls x ≡ None = sym (c.labels x) ∙ label_between ps i x c.tidy (IsPast-weaker ps i from x r.past a) h in
    let e : ltb x len ≡ true = grind (arith, nat_tests) in
    ap (λ t. cond t (Some (label_of l.labels.items l.file l.memory.alone (position_if_any (addr len ls x)) x)) None) e ∙ ap (λ f. Some (label_of l.labels.items l.file l.memory.alone (position_if_any f) x)) (addr_none len 0 ls x none)

-- Offsets of a piece lie in the file.
pub offset_in_file : (len : ℕ) (ls : List Load) (ps : List Piece) (i x : ℕ) → IsCut (load_of_offset len ls) ps → i < length ps → (at ps i).start ≤ x → x < end_of (at ps i) → x < len
offset_in_file len ls ps i x c l a b =
    (offset_bounds len (load_of ls (at ps i)) x (first_covers_offset len ls x (at ps i).label no_load (label_of_piece (load_of_offset len ls) ps i no_piece x c l a b)).covers).2

pub piece_in_file : (len : ℕ) (ls : List Load) (ps : List Piece) (i : ℕ) → IsCut (load_of_offset len ls) ps → i < length ps → end_of (at ps i) ≤ len
piece_in_file len ls ps i c l =
    let some = some_len ps i no_piece c.tidy l in
    let b = offset_in_file len ls ps i (end_of (at ps i) - 1) c l (omega arith) (omega arith) in
    omega arith

-- Offsets that a load covers.
offset_in_piece : (len : ℕ) (ls : List Load) (l : Layers) (ps : List Piece) (i k : ℕ) → len < 2 ^ 63 → IsCut (load_of_offset len ls) ps → i < length ps → k < (at ps i).len
    → offset_labels len ls l ((at ps i).start + k) ≡ Some (label_of l.labels.items l.file l.memory.alone (Some ((stretch_of ToFile len (load_of ls (at ps i)) (at ps i)).source + k)) ((at ps i).start + k))
offset_in_piece len ls l ps i k small c m h =
    let p = at ps i in
    let s = stretch_of ToFile len (load_of ls p) p in
    let x : ℕ = p.start + k in
    let n : x - p.start ≡ k = omega arith in
    let inside = (offset_fits len ls ps small c i no_piece m).inside x (has_target-in s x (omega arith) (omega arith)) ∙ ap (λ n. Some (s.source + n)) n in
    let b : x < len = offset_in_file len ls ps i x c m (omega arith) (omega arith) in
    let e : ltb x len ≡ true = grind (arith, nat_tests) in
    ap (λ t. cond t (Some (label_of l.labels.items l.file l.memory.alone (position_if_any (addr len ls x)) x)) None) e ∙ ap (λ f. Some (label_of l.labels.items l.file l.memory.alone f x)) inside

-- The offsets before a piece, and those of the piece.
pub offset_gap_step : (len : ℕ) (ls : List Load) (l : Layers) (ps : List Piece) (i from to : ℕ) (old new : List Piece) → IsCut (load_of_offset len ls) ps → Reaches ps i from → from ≤ to → to ≤ len → (i < length ps → to ≤ (at ps i).start)
    → UpTo (offset_labels len ls l) from old → Paints (gap_of from to) (λ x y. label_of l.labels.items l.file [] (Some y) x) old new → UpTo (offset_labels len ls l) to new
offset_gap_step len ls l ps i from to old new c r a b h u w =
    let e : from + (to - from) ≡ to = omega arith in
    rw e at (up_to_more (offset_labels len ls l) (gap_of from to) (λ x y. label_of l.labels.items l.file [] (Some y) x) old new u w (λ k m. offset_in_gap len ls l ps i from (from + k) (0 + k) c r (omega arith) (λ n. omega (arith, h n)) (omega arith)))

pub offset_piece_step : (len : ℕ) (ls : List Load) (l : Layers) (ps : List Piece) (i : ℕ) (old new : List Piece) → len < 2 ^ 63 → IsCut (load_of_offset len ls) ps → i < length ps
    → UpTo (offset_labels len ls l) (at ps i).start old → Paints (stretch_of ToFile len (load_of ls (at ps i)) (at ps i)) (λ x y. label_of l.labels.items l.file l.memory.alone (Some y) x) old new → UpTo (offset_labels len ls l) (end_of (at ps i)) new
offset_piece_step len ls l ps i old new small c m u w =
    up_to_more (offset_labels len ls l) (stretch_of ToFile len (load_of ls (at ps i)) (at ps i)) (λ x y. label_of l.labels.items l.file l.memory.alone (Some y) x) old new u w (λ k n. offset_in_piece len ls l ps i k small c m n)

pub offset_past : (len : ℕ) (ls : List Load) (l : Layers) (x : ℕ) → len ≤ x → offset_labels len ls l x ≡ None
offset_past len ls l x h =
    let e : ltb x len ≡ false = grind (arith, nat_tests) in
    ap (λ t. cond t (Some (label_of l.labels.items l.file l.memory.alone (position_if_any (addr len ls x)) x)) None) e

-- Positions that no load covers.
pub position_in_gap : (len : ℕ) (ls : List Load) (l : Layers) (ps : List Piece) (i from x : ℕ) → IsCut (load_of_position ls) ps → Reaches ps i from → from ≤ x → (i < length ps → x < (at ps i).start)
    → position_labels len ls l x ≡ None
position_in_gap len ls l ps i from x c r a h =
    let none : load_of_position ls x ≡ None = sym (c.labels x) ∙ label_between ps i x c.tidy (IsPast-weaker ps i from x r.past a) h in
    ap (λ t. cond t (Some (label_of l.labels.items l.memory l.file.alone (place len ls (space_of x) (address_of x)) x)) None) (unmapped 0 ls (space_of x) (address_of x) none)

-- A position of a piece is mapped.
position_of_piece : (len : ℕ) (ls : List Load) (l : Layers) (ps : List Piece) (i x : ℕ) (found : Option ℕ) → IsCut (load_of_position ls) ps → i < length ps → (at ps i).start ≤ x → x < end_of (at ps i) → place len ls (space_of x) (address_of x) ≡ found
    → position_labels len ls l x ≡ Some (label_of l.labels.items l.memory l.file.alone found x)
position_of_piece len ls l ps i x found c m a b e =
    let w = first_covers_address len ls x (at ps i).label no_load (label_of_piece (load_of_position ls) ps i no_piece x c m a b) in
    ap (λ t. cond t (Some (label_of l.labels.items l.memory l.file.alone (place len ls (space_of x) (address_of x)) x)) None) w.is_mapped ∙ ap (λ f. Some (label_of l.labels.items l.memory l.file.alone f x)) e

position_in_stretch : (len : ℕ) (ls : List Load) (l : Layers) (ps : List Piece) (i k : ℕ) → IsCut (load_of_position ls) ps → i < length ps → k < (stretch_of ToMemory len (load_of ls (at ps i)) (at ps i)).len
    → position_labels len ls l ((at ps i).start + k) ≡ Some (label_of l.labels.items l.memory l.file.alone (Some ((stretch_of ToMemory len (load_of ls (at ps i)) (at ps i)).source + k)) ((at ps i).start + k))
position_in_stretch len ls l ps i k c m h =
    let p = at ps i in
    let s = stretch_of ToMemory len (load_of ls p) p in
    let x : ℕ = p.start + k in
    let n : x - p.start ≡ k = omega arith in
    position_of_piece len ls l ps i x (Some (s.source + k)) c m (omega arith) (omega arith) ((memory_fits len ls ps c i no_piece m).inside x (has_target-in s x (omega arith) (omega arith)) ∙ ap (λ n. Some (s.source + n)) n)

-- A position of a piece that its stretch lacks has no offset.
no_offset : (len : ℕ) (ls : List Load) (ps : List Piece) (i x : ℕ) (found : Option ℕ) → IsCut (load_of_position ls) ps → i < length ps → (at ps i).start + (stretch_of ToMemory len (load_of ls (at ps i)) (at ps i)).len ≤ x → x < end_of (at ps i) → place len ls (space_of x) (address_of x) ≡ found → found ≡ None
no_offset len ls ps i x None c m a b e = refl
no_offset len ls ps i x (Some v) c m a b e =
    let s = stretch_of ToMemory len (load_of ls (at ps i)) (at ps i) in
    let t = target_bounds s x ((memory_fits len ls ps c i no_piece m).covered x v (has_from (at ps i) x (omega arith) b) e) in
    absurd (omega (arith, t.1))

position_in_rest : (len : ℕ) (ls : List Load) (l : Layers) (ps : List Piece) (i x y : ℕ) → IsCut (load_of_position ls) ps → i < length ps → (at ps i).start + (stretch_of ToMemory len (load_of ls (at ps i)) (at ps i)).len ≤ x → x < end_of (at ps i)
    → position_labels len ls l x ≡ Some (label_of l.labels.items l.memory [] (Some y) x)
position_in_rest len ls l ps i x y c m a b =
    position_of_piece len ls l ps i x None c m (omega arith) b (no_offset len ls ps i x (place len ls (space_of x) (address_of x)) c m a b refl)

-- The positions of a piece: those with an offset, and the rest.
pub position_step : (len : ℕ) (ls : List Load) (l : Layers) (ps : List Piece) (i from : ℕ) (old mid new : List Piece) → IsCut (load_of_position ls) ps → Reaches ps i from → i < length ps → UpTo (position_labels len ls l) from old
    → Paints (stretch_of ToMemory len (load_of ls (at ps i)) (at ps i)) (λ x y. label_of l.labels.items l.memory l.file.alone (Some y) x) old mid
    → Paints (gap_of ((at ps i).start + (stretch_of ToMemory len (load_of ls (at ps i)) (at ps i)).len) (end_of (at ps i))) (λ x y. label_of l.labels.items l.memory [] (Some y) x) mid new
    → UpTo (position_labels len ls l) (end_of (at ps i)) new
position_step len ls l ps i from old mid new c r m u w v =
    let p = at ps i in
    let s = stretch_of ToMemory len (load_of ls p) p in
    let rest = gap_of (p.start + s.len) (end_of p) in
    let skipped = up_to_later (position_labels len ls l) from p.start old (r.ahead m) u (λ x a b. position_in_gap len ls l ps i from x c r a (λ n. b)) in
    let first = up_to_more (position_labels len ls l) s (λ x y. label_of l.labels.items l.memory l.file.alone (Some y) x) old mid skipped w (λ k n. position_in_stretch len ls l ps i k c m n) in
    let e : p.start + s.len + (end_of p - (p.start + s.len)) ≡ end_of p = omega arith in
    rw e at (up_to_more (position_labels len ls l) rest (λ x y. label_of l.labels.items l.memory [] (Some y) x) mid new first v (λ k n. position_in_rest len ls l ps i (p.start + s.len + k) (0 + k) c m (omega arith) (omega arith)))

pub position_past : (len : ℕ) (ls : List Load) (l : Layers) (ps : List Piece) (i from x : ℕ) → IsCut (load_of_position ls) ps → Reaches ps i from → length ps ≤ i → from ≤ x → position_labels len ls l x ≡ None
position_past len ls l ps i from x c r h a = position_in_gap len ls l ps i from x c r a (λ n. absurd (omega arith))

-- The same steps, by what was read.
get_or_same : (ls : List Load) (i : ℕ) (d e : Load) → i < length ls → get_or ls i d ≡ get_or ls i e
get_or_same [] i d e l = absurd (omega arith)
get_or_same (x ∷ ls) zero d e l = refl
get_or_same (x ∷ ls) (suc i) d e l = get_or_same ls i d e (omega arith)

pub load_from_get : (ls : List Load) (p : Piece) (l : Load) → l ≡ get_or ls p.label l → p.label < length ls → l ≡ load_of ls p
load_from_get ls p l e h = e ∙ get_or_same ls p.label l no_load h

pub load_fits : (ls : List Load) (p : Piece) (l : Load) → All IsLoad ls → l ≡ get_or ls p.label l → p.label < length ls → l.vaddr + l.memsz ≤ 2 ^ 64
load_fits ls p l a e h = subst (λ (l : Load). l.vaddr + l.memsz ≤ 2 ^ 64) (sym e) (a p.label l h).ends

pub lies_from_get : (way : Way) (ls : List Load) (p : Piece) (l : Load) → IsPieceOf way ls p → l ≡ get_or ls p.label l → LiesIn way l p
lies_from_get way ls p l q e = subst (λ l. LiesIn way l p) (sym (load_from_get ls p l e q.within)) q.lies

pub offset_piece : (len : ℕ) (ls : List Load) (ps : List Piece) (i : ℕ) (p : Piece) → len < 2 ^ 63 → IsCut (load_of_offset len ls) ps → slice_get ps i ≡ Some p → IsPieceOf ToFile ls p
offset_piece len ls ps i p small c e =
    subst (IsPieceOf ToFile ls) (at_from_get ps i p e) (offset_pieces len ls ps small c i no_piece (slice_get_within ps i p e))

pub position_piece : (ls : List Load) (ps : List Piece) (i : ℕ) (p : Piece) → EndsBy (2 ^ 96) ps → IsCut (load_of_position ls) ps → slice_get ps i ≡ Some p → IsPieceOf ToMemory ls p
position_piece ls ps i p ends c e =
    subst (IsPieceOf ToMemory ls) (at_from_get ps i p e) (address_pieces ToMemory ls ps (λ l. refl) ends c i no_piece (slice_get_within ps i p e))

pub piece_fits : (len : ℕ) (ls : List Load) (ps : List Piece) (i : ℕ) (p : Piece) → IsCut (load_of_offset len ls) ps → slice_get ps i ≡ Some p → end_of p ≤ len
piece_fits len ls ps i p c e =
    omega (arith, piece_in_file len ls ps i c (slice_get_within ps i p e), end_from_get ps i p e)

pub gap_small : (from to : ℕ) (gap : Stretch) → gap ≡ gap_of from to → from ≤ to → to ≤ 2 ^ 96 → to - from < 2 ^ 64 → IsSmall gap
gap_small from to gap e a b h =
    subst IsSmall (sym e) (record { len_fits = h; source_fits = omega arith; target_fits = omega arith })

pub from_by_start : (ps : List Piece) (i from : ℕ) (p : Piece) → Reaches ps i from → slice_get ps i ≡ Some p → from ≤ p.start
from_by_start ps i from p r e = omega (arith, r.ahead (slice_get_within ps i p e), start_from_get ps i p e)

pub reaches_get : (ps : List Piece) (i from : ℕ) (p : Piece) → IsTidy ps → Reaches ps i from → slice_get ps i ≡ Some p → Reaches ps (i + 1) (end_of p)
reaches_get ps i from p t r e =
    subst (Reaches ps (i + 1)) (end_from_get ps i p e) (reaches_next ps i from t r (slice_get_within ps i p e))

-- What a stretch paints, by equal stretches, labels and maps.
paints_same : (s t : Stretch) (labels names : List ℕ) (layer : Layer) (map qs old new : List Piece) → Paints s (λ x y. label_of labels layer map (Some y) x) old new → s ≡ t → labels ≡ names → map ≡ qs → Paints t (λ x y. label_of names layer qs (Some y) x) old new
paints_same s t labels names layer map qs old new w e f g =
    subst (λ m. Paints t (λ x y. label_of names layer m (Some y) x) old new) g (subst (λ n. Paints t (λ x y. label_of n layer map (Some y) x) old new) f (subst (λ t. Paints t (λ x y. label_of labels layer map (Some y) x) old new) e w))

pub offset_before : (len : ℕ) (ls : List Load) (l : Layers) (ps : List Piece) (i from : ℕ) (p : Piece) (gap : Stretch) (labels : List ℕ) (map old new : List Piece) → IsCut (load_of_offset len ls) ps → Reaches ps i from → slice_get ps i ≡ Some p → UpTo (offset_labels len ls l) from old
    → Paints gap (λ x y. label_of labels l.file map (Some y) x) old new → gap ≡ gap_of from p.start → labels ≡ l.labels.items → map ≡ [] → UpTo (offset_labels len ls l) p.start new
offset_before len ls l ps i from p gap labels map old new c r e u w eg el em =
    offset_gap_step len ls l ps i from p.start old new c r (from_by_start ps i from p r e) (omega (arith, piece_fits len ls ps i p c e)) (λ m. omega (arith, start_from_get ps i p e)) u (paints_same gap (gap_of from p.start) labels l.labels.items l.file map [] old new w eg el em)

pub offset_within : (len : ℕ) (ls : List Load) (l : Layers) (ps : List Piece) (i : ℕ) (p : Piece) (s : Stretch) (load : Load) (labels : List ℕ) (old new : List Piece) → len < 2 ^ 63 → IsCut (load_of_offset len ls) ps → slice_get ps i ≡ Some p → UpTo (offset_labels len ls l) p.start old
    → Paints s (λ x y. label_of labels l.file l.memory.alone (Some y) x) old new → s ≡ stretch_of ToFile 0 load p → load ≡ get_or ls p.label load → labels ≡ l.labels.items → UpTo (offset_labels len ls l) (end_of p) new
offset_within len ls l ps i p s load labels old new small c e u w es el en =
    let q = at_from_get ps i p e in
    let within = slice_get_within ps i p e in
    let loaded : load ≡ load_of ls p = load_from_get ls p load el (offset_piece len ls ps i p small c e).within in
    let t : s ≡ stretch_of ToFile len (load_of ls p) p = es ∙ ap (λ l. stretch_of ToFile len l p) loaded in
    let painted = paints_same s (stretch_of ToFile len (load_of ls p) p) labels l.labels.items l.file l.memory.alone l.memory.alone old new w t en refl in
    subst (λ q. UpTo (offset_labels len ls l) (end_of q) new) q (offset_piece_step len ls l ps i old new small c within (subst (λ q. UpTo (offset_labels len ls l) q.start old) (sym q) u) (subst (λ q. Paints (stretch_of ToFile len (load_of ls q) q) (λ x y. label_of l.labels.items l.file l.memory.alone (Some y) x) old new) (sym q) painted))

pub offset_after : (len : ℕ) (ls : List Load) (l : Layers) (ps : List Piece) (i from to : ℕ) (gap : Stretch) (labels : List ℕ) (map old new : List Piece) → IsCut (load_of_offset len ls) ps → Reaches ps i from → length ps ≤ i → from ≤ len → UpTo (offset_labels len ls l) from old
    → Paints gap (λ x y. label_of labels l.file map (Some y) x) old new → gap ≡ gap_of from to → to ≡ len → labels ≡ l.labels.items → map ≡ [] → IsLabelled (offset_labels len ls l) new
offset_after len ls l ps i from to gap labels map old new c r done h u w eg et el em =
    let all = offset_gap_step len ls l ps i from len old new c r h (omega arith) (λ m. absurd (omega arith)) u (paints_same gap (gap_of from len) labels l.labels.items l.file map [] old new w (eg ∙ ap (gap_of from) et) el em) in
    up_to_all (offset_labels len ls l) len new all (λ x a. offset_past len ls l x a)

pub position_within : (len : ℕ) (ls : List Load) (l : Layers) (ps : List Piece) (i from : ℕ) (p : Piece) (s rest : Stretch) (load : Load) (labels : List ℕ) (map old mid new : List Piece) → EndsBy (2 ^ 96) ps → IsCut (load_of_position ls) ps → Reaches ps i from → slice_get ps i ≡ Some p → UpTo (position_labels len ls l) from old
    → Paints s (λ x y. label_of labels l.memory l.file.alone (Some y) x) old mid → Paints rest (λ x y. label_of labels l.memory map (Some y) x) mid new
    → s ≡ stretch_of ToMemory len load p → load ≡ get_or ls p.label load → rest ≡ gap_of (p.start + s.len) (end_of p) → labels ≡ l.labels.items → map ≡ [] → UpTo (position_labels len ls l) (end_of p) new
position_within len ls l ps i from p s rest load labels map old mid new ends c r e u w v es el er en em =
    let q = at_from_get ps i p e in
    let within = slice_get_within ps i p e in
    let loaded : load ≡ load_of ls p = load_from_get ls p load el (position_piece ls ps i p ends c e).within in
    let t : s ≡ stretch_of ToMemory len (load_of ls p) p = es ∙ ap (λ l. stretch_of ToMemory len l p) loaded in
    let after : rest ≡ gap_of (p.start + (stretch_of ToMemory len (load_of ls p) p).len) (end_of p) = er ∙ ap (λ (s : Stretch). gap_of (p.start + s.len) (end_of p)) t in
    let painted = paints_same s (stretch_of ToMemory len (load_of ls p) p) labels l.labels.items l.memory l.file.alone l.file.alone old mid w t en refl in
    let more = paints_same rest (gap_of (p.start + (stretch_of ToMemory len (load_of ls p) p).len) (end_of p)) labels l.labels.items l.memory map [] mid new v after en em in
    subst (λ q. UpTo (position_labels len ls l) (end_of q) new) q (position_step len ls l ps i from old mid new c r within u (subst (λ q. Paints (stretch_of ToMemory len (load_of ls q) q) (λ x y. label_of l.labels.items l.memory l.file.alone (Some y) x) old mid) (sym q) painted) (subst (λ q. Paints (gap_of (q.start + (stretch_of ToMemory len (load_of ls q) q).len) (end_of q)) (λ x y. label_of l.labels.items l.memory [] (Some y) x) mid new) (sym q) more))
