-- The notes of the beginning of an area are the first notes of the area.
use Rattle.std.proofs.Common.{◌≡◌, ℕ, zero, suc, ◌+◌, ◌-◌, ◌≤◌, Bool, true, false, List, [], ◌∷◌, length, take, drop, Option, Some, None, refl, sym, ap, ◌∙◌, arith}
use Rattle.std.specs.Prelude.{nat_le, if◌then◌else◌}
use Rattle.std.specs.Int.{w32}
use Rattle.std.specs.List.{find}
use Rattle.std.specs.Option.{option_map}
use Rattle.std.proofs.lemmas.Grind.{common_steps}
use Rattle.std.proofs.lemmas.List.{length-take, take-take, take_all}
use Rattle.byte_cursor.proofs.Windows.{field-window}
use Rattle.byte_cursor.specs.declared.order.Order.{Order}
use Rattle.byte_cursor.specs.Numbers.{field}
use Rattle.elf_file.specs.Layout.{encoding_of}
use Rattle.elf_file.specs.Tables.{has_bytes, section_at, section_bytes, segment_at, segment_bytes}
use Rattle.debug_pair.specs.Areas.{HasNoId, IsArea}
use Rattle.debug_pair.specs.Identities.{build_id, is_build_id}
use Rattle.debug_pair.specs.Notes.{NoteRecord, after_note, content_len, content_place, has_note, name_len, note_of, notes, notes_within, padded_len}
use Rattle.debug_pair.specs.declared.searched.Searched.{Searched}
use Rattle.debug_pair.proofs.IdentityLemmas.{first_id, in_area}
use Rattle.debug_pair.proofs.NoteLemmas.{none_in, none_left, same_fuel}

-- the first bytes of a list, from an offset on
drop_front : (at m : ℕ) (xs : List ℕ) → drop at (take m xs) ≡ take (m - at) (drop at xs)
drop_front zero m xs = let whole : m - 0 ≡ m = omega arith in rw whole refl
drop_front (suc at) zero xs = let none : 0 - suc at ≡ 0 = omega arith in rw none refl
drop_front (suc at) (suc m) [] = let all : take (suc m - suc at) (drop (suc at) []) ≡ [] = take_all (suc m - suc at) [] (omega arith) in sym all
drop_front (suc at) (suc m) (x ∷ xs) = let less : suc m - suc at ≡ m - at = omega arith in rw less (drop_front at m xs)

part_front : (area : List ℕ) (m at len : ℕ) → at + len ≤ m → take len (drop at (take m area)) ≡ take len (drop at area)
part_front area m at len le = ap (take len) (drop_front at m area) ∙ take-take len (m - at) (drop at area) (omega arith)

field_front : (order : Order) (area : List ℕ) (m at : ℕ) → at + 4 ≤ m → field (take m area) at w32 order ≡ field area at w32 order
field_front order area m at le =
    let from : 0 + at ≡ at = omega arith in
    field-window area 0 m at w32 order (omega arith) le ∙ ap (λ (n : ℕ). field area n w32 order) from

-- a note that fits into the beginning of an area is the first note of the area
record FrontNote (order : Order) (m : ℕ) (area : List ℕ) : Type 0 where
  has : has_note order area ≡ true
  note : note_of order (take m area) ≡ note_of order area
  after : after_note order (take m area) ≡ take (m - (content_place order area + padded_len (content_len order area))) (after_note order area)

record Fits (order : Order) (area : List ℕ) : Type 0 where
  words : 12 ≤ length area
  content : content_place order area + content_len order area ≤ length area

fits : (order : Order) (area : List ℕ) → has_note order area ≡ true → Fits order area
unfolding has_note
fits order area has = record { words = grind (arith, common_steps); content = grind (arith, common_steps) }

has_it : (order : Order) (area : List ℕ) → Fits order area → has_note order area ≡ true
unfolding has_note
has_it order area f = grind (arith, common_steps, f.words, f.content)

padded_le : (n : ℕ) → n ≤ padded_len n
padded_le n = omega arith

abbrev made_note : List ℕ → ℕ → List ℕ → NoteRecord
made_note name kind content = record { name = name; kind = kind; content = content }

same_note : (n n' : List ℕ) (k k' : ℕ) (c c' : List ℕ) → n ≡ n' → k ≡ k' → c ≡ c' → made_note n k c ≡ made_note n' k' c'
same_note n n' k k' c c' p q r = rw (p, q, r) refl

front_note : (order : Order) (m : ℕ) (area : List ℕ) → has_note order (take m area) ≡ true → FrontNote order m area
unfolding note_of after_note
front_note order m area has =
    let f = fits order (take m area) has in
    let size : length (take m area) ≤ m = omega (arith, length-take m area) in
    let whole : length (take m area) ≤ length area = omega (arith, length-take m area) in
    let words : 12 ≤ m = omega (arith, f.words) in
    let name : name_len order (take m area) ≡ name_len order area = field_front order area m 0 (omega arith) in
    let content : content_len order (take m area) ≡ content_len order area = field_front order area m 4 (omega arith) in
    let kind : field (take m area) 8 w32 order ≡ field area 8 w32 order = field_front order area m 8 (omega arith) in
    let place : content_place order (take m area) ≡ content_place order area = ap (λ (n : ℕ). 12 + padded_len n) name in
    let end : content_place order area + content_len order area ≤ length (take m area) = omega (arith, f.content, place, content) in
    let padded : name_len order area ≤ padded_len (name_len order area) = padded_le (name_len order area) in
    let next : content_place order (take m area) + padded_len (content_len order (take m area)) ≡ content_place order area + padded_len (content_len order area) = rw (place, content) refl in
    record {
      has = has_it order area (record { words = omega (arith, f.words); content = omega arith });
      note = same_note _ _ _ _ _ _
          (ap (λ (n : ℕ). take n (drop 12 (take m area))) name ∙ part_front area m 12 (name_len order area) (omega arith))
          kind
          (rw (place, content) (part_front area m (content_place order area) (content_len order area) (omega arith)));
      after = ap (λ (n : ℕ). drop n (take m area)) next ∙ drop_front (content_place order area + padded_len (content_len order area)) m area;
    }

-- if no note is a build ID, the first one isn't, and no later one is
record NoneOf (n : NoteRecord) (ns : List NoteRecord) : Type 0 where
  here : is_build_id n ≡ false
  later : find is_build_id ns ≡ None

none_of : (n : NoteRecord) (ns : List NoteRecord) → find is_build_id (n ∷ ns) ≡ None → NoneOf n ns
none_of n ns none = by_test (is_build_id n) refl none
  where
    by_test : (b : Bool) → is_build_id n ≡ b → (if b then Some n else find is_build_id ns) ≡ None → NoneOf n ns
    by_test true is e = cc e
    by_test false is e = record { here = is; later = e }

some_of : (n : NoteRecord) (ns : List NoteRecord) → NoneOf n ns → find is_build_id (n ∷ ns) ≡ None
some_of n ns none = rw none.here none.later

-- the beginning of an area without a build ID has none
none_in_front : (order : Order) (fuel m : ℕ) (area : List ℕ) → find is_build_id (notes_within fuel order area) ≡ None → find is_build_id (notes_within fuel order (take m area)) ≡ None
unfolding notes_within
none_in_front order zero m area none = refl
none_in_front order (suc fuel) m area none = by_note (λ k rest. none_in_front order fuel k rest) (has_note order (take m area)) refl
  where
    by_note : ((k : ℕ) (rest : List ℕ) → find is_build_id (notes_within fuel order rest) ≡ None → find is_build_id (notes_within fuel order (take k rest)) ≡ None)
        → (has : Bool) → has_note order (take m area) ≡ has → find is_build_id (if has then note_of order (take m area) ∷ notes_within fuel order (after_note order (take m area)) else []) ≡ None
    by_note rests false is = refl
    by_note rests true is =
        let front = front_note order m area is in
        let all : find is_build_id (note_of order area ∷ notes_within fuel order (after_note order area)) ≡ None =
        ap (λ (has : Bool). find is_build_id (if has then note_of order area ∷ notes_within fuel order (after_note order area) else [])) (sym front.has) ∙ none in
        let each = none_of _ _ all in
        some_of _ _ (record { here = ap is_build_id front.note ∙ each.here; later = rw front.after (rests _ _ each.later) })

id_none : (found : Option NoteRecord) → option_map (λ (n : NoteRecord). n.content) found ≡ None → found ≡ None
id_none None e = refl
id_none (Some n) e = cc e

none_in_begin : (order : Order) (m : ℕ) (area : List ℕ) → build_id order (area ∷ []) ≡ None → build_id order (take m area ∷ []) ≡ None
unfolding notes
none_in_begin order m area none =
    let all : find is_build_id (notes_within (length area) order area) ≡ None = id_none _ (sym (in_area order area) ∙ none) in
    let size : length (take m area) ≤ length area = omega (arith, length-take m area) in
    in_area order (take m area)
    ∙ ap (λ (ns : List NoteRecord). first_id ns) (same_fuel order (length (take m area)) (length area) (take m area) (omega arith) size)
    ∙ ap (option_map (λ (n : NoteRecord). n.content)) (none_in_front order (length area) m area all)

-- an area that begins where the last one does and isn't longer has no build ID
pub none_in_beginning : (file : List ℕ) (last : Searched) (area : List ℕ) (offset : ℕ) → HasNoId file last → IsArea file offset area → offset ≡ last.offset → length area ≤ last.len → build_id (encoding_of file).order (area ∷ []) ≡ None
none_in_beginning file last area offset none is same le =
    let begin : area ≡ take (length area) (take last.len (drop last.offset file)) =
    is ∙ ap (λ (at : ℕ). take (length area) (drop at file)) same ∙ sym (take-take (length area) last.len (drop last.offset file) le) in
    rw begin (none_in_begin (encoding_of file).order (length area) (take last.len (drop last.offset file)) none)

-- an area that was searched and has no build ID
pub none_in_area : (file area : List ℕ) (offset : ℕ) → IsArea file offset area → build_id (encoding_of file).order (area ∷ []) ≡ None → build_id (encoding_of file).order (take (length area) (drop offset file) ∷ []) ≡ None
none_in_area file area offset is none = ap (λ (a : List ℕ). build_id (encoding_of file).order (a ∷ [])) (sym is) ∙ none

pub none_in_nothing : (file : List ℕ) → build_id (encoding_of file).order (take 0 (drop 0 file) ∷ []) ≡ None
none_in_nothing file = in_area (encoding_of file).order [] ∙ ap first_id (none_left (encoding_of file).order [] (none_in (encoding_of file).order [] refl))

-- the bytes of sections and segments are in the file
cut : (n : ℕ) (xs : List ℕ) → take n xs ≡ take (length (take n xs)) xs
cut n xs = by_size (nat_le n (length xs)) refl
  where
    by_size : (b : Bool) → nat_le n (length xs) ≡ b → take n xs ≡ take (length (take n xs)) xs
    by_size b is = grind (arith, common_steps)

pub section_is_area : (file : List ℕ) (i : ℕ) → IsArea file (section_at file i).offset (section_bytes file i)
unfolding section_bytes
section_is_area file i = by_kind (has_bytes file i)
  where
    by_kind : (b : Bool) → let bytes = if b then take (section_at file i).size (drop (section_at file i).offset file) else [] in bytes ≡ take (length bytes) (drop (section_at file i).offset file)
    by_kind true = cut (section_at file i).size (drop (section_at file i).offset file)
    by_kind false = refl

pub segment_is_area : (file : List ℕ) (i : ℕ) → IsArea file (segment_at file i).offset (segment_bytes file i)
unfolding segment_bytes
segment_is_area file i = cut (segment_at file i).filesz (drop (segment_at file i).offset file)
