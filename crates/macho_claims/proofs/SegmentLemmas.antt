-- Segments, and the segments that are loads.
use Rattle.std.proofs.Common.{◌≡◌, ℕ, zero, suc, ◌+◌, List, [], ◌∷◌, ◌++◌, length, Option, Some, slice_get, refl, sym, ap, ◌∙◌, arith, append_assoc}
use Rattle.std.specs.List.{flat_map}
use Rattle.std.specs.Option.{option_and_then, option_to_list}
use Rattle.std.proofs.lemmas.List.{append-nil}
use Rattle.size_core.specs.declared.claim.Load.{Load}
use Rattle.size_core.specs.Gather.{gather}
use Rattle.macho_file.specs.Tables.{SegmentRecord, segments}
use Rattle.macho_claims.specs.Loads.{loads_of, segment_load, slot_count, slot_load}

-- The loads by their slots are those of the segments in order.
shift : {X : Type 0} (f : ℕ → List X) (i n : ℕ) → gather f (i + 1) n ≡ gather (λ k. f (suc k)) i n
unfolding gather
shift f i zero = refl
shift f i (suc n) = let next : i + 1 ≡ suc i = omega arith in rw (shift f (i + 1) n) (ap (λ (k : ℕ). f k ++ gather (λ k. f (suc k)) (i + 1) n) next)

by_number : {S X : Type 0} (h : Option S → List X) (xs : List S) → gather (λ k. h (slice_get xs k)) 0 (length xs) ≡ flat_map (λ x. h (Some x)) xs
unfolding gather
by_number h [] = refl
by_number h (x ∷ xs) = ap (λ rest. h (Some x) ++ rest) (shift (λ k. h (slice_get (x ∷ xs) k)) 0 (length xs) ∙ by_number h xs)

abbrev pub loads_among : List SegmentRecord → List Load
loads_among = flat_map (λ (s : SegmentRecord). option_to_list (segment_load s))

loads_are : (file : List ℕ) → loads_of file ≡ loads_among (segments file)
unfolding loads_of slot_count slot_load
loads_are file = by_number (λ (s : Option SegmentRecord). option_to_list (option_and_then segment_load s)) (segments file)

-- a loop over the segments
pub loads_begin : (file : List ℕ) → [] ++ loads_among (segments file) ≡ loads_of file
loads_begin file = sym (loads_are file)

pub loads_go : (front back : List Load) (s : SegmentRecord) (rest : List SegmentRecord) → back ≡ front ++ option_to_list (segment_load s)
    → back ++ loads_among rest ≡ front ++ loads_among (s ∷ rest)
loads_go front back s rest e = rw (e, append_assoc) refl

pub loads_end : (front : List Load) (rest : List SegmentRecord) → rest ≡ [] → front ++ loads_among rest ≡ front
loads_end front rest none = rw none (append-nil front)
