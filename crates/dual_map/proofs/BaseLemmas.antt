-- The maps of a base: the labellings that they cut, the number of their pieces, and how much is mapped.
use Rattle.std.proofs.Common.{◌≡◌, ◌+◌, ◌*◌, ◌^◌, ◌<◌, ◌≤◌, ℕ, max, is_some, Bool, true, false, cond, ltb, List, [], ◌∷◌, Option, Some, None, length, get_or, refl, sym, ap, ◌∙◌, arith}
use Rattle.std.specs.List.{All}
use Rattle.std.proofs.lemmas.List.Elements.{All-head, All-tail}
use Rattle.std.proofs.lemmas.Option.{none-some, same_Some}
use Rattle.size_core.specs.declared.claim.Load.{Load}
use Rattle.size_core.specs.declared.claim.Claim.{Claim}
use Rattle.size_model.specs.declared.piece.Piece.{Piece}
use Rattle.size_model.specs.Cut.{label_in, IsCut, IsLaid}
use Rattle.size_model.specs.Labels.{first_label, offset_label, address_label, offset_labelling, address_labelling}
use Rattle.size_model.specs.Claims.{covers_offset, covers_address}
use Rattle.size_model.specs.Loads.{is_mapped, space_of, address_of, mapped_count, IsLoad}
use Rattle.range_map.specs.Ranges.{EndsBy, IsRange}
use Rattle.size_model.proofs.Counts.{count-same}
use Rattle.range_map.proofs.Counts.{size_of, count-tidy, count_le}
use Rattle.size_model.proofs.Cuts.{StartsFrom}
use Rattle.range_map.proofs.Places.{length-laid}
use Rattle.range_map.proofs.Segments.{EndsBy-laid}
use Rattle.dual_map.specs.Layout.{load_of_offset, load_of_position, Layout, HasPieces, IsLayout, IsOver, LabelsBelow}
use Rattle.dual_map.specs.Loads.{file_ranges, address_range, address_ranges}
use Rattle.dual_map.specs.Ranges.{all_offsets, all_positions}
use Rattle.dual_map.specs.Way.{stretches_of, ToFile, ToMemory, InMemory}
use Rattle.dual_map.proofs.LoadLemmas.{label_in-file_ranges, label_in-address_ranges, length-file_ranges, length-address_ranges}
use Rattle.dual_map.proofs.Gathering.{some_len, label_of_piece, Carries-to_file, Carries-to_memory, Carries-in_memory, length-stretches_of}
use Rattle.dual_map.proofs.ClaimLemmas.{is_some-load, label_in-all_offsets, label_in-all_positions, length-all_offsets, length-all_positions}

pub offsets_cut : (len : ℕ) (ls : List Load) (rs ps : List Piece) → rs ≡ file_ranges len 0 ls → IsLaid rs ps → IsCut (load_of_offset len ls) ps
offsets_cut len ls rs ps e l = record {
  tidy = l.tidy;
  labels = λ x. l.labels x ∙ (ap (λ rs. label_in rs x) e ∙ label_in-file_ranges len 0 ls x);
}

pub positions_cut : (ls : List Load) (rs ps : List Piece) → All IsLoad ls → rs ≡ address_ranges 0 ls → IsLaid rs ps → IsCut (load_of_position ls) ps
positions_cut ls rs ps a e l = record {
  tidy = l.tidy;
  labels = λ x. l.labels x ∙ (ap (λ rs. label_in rs x) e ∙ label_in-address_ranges 0 ls x a);
}

EndsBy-address_ranges : (n : ℕ) (ls : List Load) → All IsLoad ls → All IsRange (address_ranges n ls) → EndsBy (2 ^ 96) (address_ranges n ls)
EndsBy-address_ranges n [] a r = tt
EndsBy-address_ranges n (l ∷ ls) a r =
    let ends = (All-head IsLoad l ls a).ends in
    let start = (All-head IsRange (address_range n l) (address_ranges (n + 1) ls) r).start_fits in
    (omega arith, EndsBy-address_ranges (n + 1) ls (All-tail IsLoad l ls a) (All-tail IsRange (address_range n l) (address_ranges (n + 1) ls) r))

pub positions_end : (ls : List Load) (ps : List Piece) → All IsLoad ls → All IsRange (address_ranges 0 ls) → IsLaid (address_ranges 0 ls) ps → EndsBy (2 ^ 96) ps
positions_end ls ps a r l = EndsBy-laid (2 ^ 96) (address_ranges 0 ls) ps (EndsBy-address_ranges 0 ls a r) l

pub length-offsets : (len : ℕ) (ls : List Load) (ps : List Piece) → IsCut (load_of_offset len ls) ps → length ps ≤ 2 * length ls
length-offsets len ls ps c =
    let l : IsLaid (file_ranges len 0 ls) ps = record { tidy = c.tidy; labels = λ x. c.labels x ∙ sym (label_in-file_ranges len 0 ls x) } in
    omega (arith, length-laid (file_ranges len 0 ls) ps l, length-file_ranges len 0 ls)

pub length-positions : (ls : List Load) (ps : List Piece) → All IsLoad ls → IsCut (load_of_position ls) ps → length ps ≤ 2 * length ls
length-positions ls ps a c =
    let l : IsLaid (address_ranges 0 ls) ps = record { tidy = c.tidy; labels = λ x. c.labels x ∙ sym (label_in-address_ranges 0 ls x a) } in
    omega (arith, length-laid (address_ranges 0 ls) ps l, length-address_ranges 0 ls)

starts_from_zero : (ps : List Piece) → StartsFrom 0 ps
starts_from_zero [] = tt
starts_from_zero (p ∷ ps) = omega arith

pub size-mapped : (ls : List Load) (ps : List Piece) → EndsBy (2 ^ 96) ps → IsCut (load_of_position ls) ps → size_of is_some ps ≡ mapped_count ls
size-mapped ls ps ends c =
    sym (count-tidy is_some refl ps 0 (2 ^ 96) c.tidy (starts_from_zero ps) ends) ∙ count-same (λ x. is_some (label_in ps x)) (is_mapped ls) 0 (2 ^ 96) (λ x a b. ap is_some (c.labels x) ∙ is_some-load ls x (load_of_position ls x) refl)

pub mapped_count_le : (ls : List Load) → mapped_count ls ≤ 2 ^ 96
mapped_count_le ls = count_le (is_mapped ls) 0 (2 ^ 96)

-- The number of pieces of the two maps.
file_bound : (len : ℕ) (ls : List Load) (offsets : List Piece) (unmapped m : ℕ) (cs : List Claim) (ps : List Piece) → len < 2 ^ 63 → All IsLoad ls → IsCut (load_of_offset len ls) offsets → length offsets ≤ m → 1 ≤ m → IsCut (offset_labelling len ls unmapped cs) ps → length ps ≤ 2 * (length cs * m + 1)
file_bound len ls offsets unmapped m cs ps small loads cut few some c =
    let to_file = stretches_of ToFile len ls offsets in
    let rs = all_offsets len to_file unmapped cs in
    let carries = Carries-to_file len ls offsets small cut in
    let l : IsLaid rs ps = record { tidy = c.tidy; labels = λ x. c.labels x ∙ sym (label_in-all_offsets len ls to_file unmapped cs x loads carries) } in
    omega (arith, length-laid rs ps l, length-all_offsets len to_file unmapped cs m (omega (arith, length-stretches_of ToFile len ls offsets)) some)

vm_bound : (len : ℕ) (ls : List Load) (positions : List Piece) (unmapped m : ℕ) (cs : List Claim) (ps : List Piece) → ((p : ℕ) → is_mapped ls p ≡ true → p < 2 ^ 96) → IsCut (load_of_position ls) positions → length positions ≤ m → IsCut (address_labelling len ls unmapped cs) ps → length ps ≤ 2 * ((length cs + 1) * m)
vm_bound len ls positions unmapped m cs ps fits cut few c =
    let to_memory = stretches_of ToMemory len ls positions in
    let in_memory = stretches_of InMemory len ls positions in
    let rs = all_positions to_memory in_memory unmapped cs in
    let l : IsLaid rs ps = record {
      tidy = c.tidy;
      labels = λ x.
          c.labels x ∙ sym (label_in-all_positions len ls to_memory in_memory unmapped cs x (fits x) (Carries-to_memory len ls positions cut) (Carries-in_memory len ls positions cut));
    } in
    omega (arith, length-laid rs ps l, length-all_positions to_memory in_memory unmapped cs m (omega (arith, length-stretches_of ToMemory len ls positions)) (omega (arith, length-stretches_of InMemory len ls positions)))

pub file_few : (layout : Layout) (unmapped b : ℕ) (cs : List Claim) (ps : List Piece) → IsLayout layout → HasPieces layout b → IsCut (offset_labelling layout.len layout.loads unmapped cs) ps → length ps ≤ 2 * (length cs * max 1 b + 1)
file_few layout unmapped b cs ps a h c =
    let larger = h.larger in
    file_bound layout.len layout.loads h.offsets unmapped (max 1 b) cs ps a.len_fits a.loads_fit h.offsets_cut (omega arith) (omega arith) c

pub vm_few : (layout : Layout) (unmapped b : ℕ) (cs : List Claim) (ps : List Piece) → IsLayout layout → HasPieces layout b → IsCut (address_labelling layout.len layout.loads unmapped cs) ps → length ps ≤ 2 * ((length cs + 1) * max 1 b)
vm_few layout unmapped b cs ps a h c =
    let larger = h.larger in
    vm_bound layout.len layout.loads h.positions unmapped (max 1 b) cs ps a.mapped_fits h.positions_cut (omega arith) c

-- The number of pieces by the number of loads.
pub few_by_loads : (layout : Layout) (unmapped : ℕ) (cs : List Claim) (ps qs : List Piece) → IsLayout layout → IsCut (offset_labelling layout.len layout.loads unmapped cs) ps → IsCut (address_labelling layout.len layout.loads unmapped cs) qs → length ps + length qs ≤ 4 * length cs * (2 * length layout.loads + 1) + 2 * (2 * length layout.loads + 1) + 4
few_by_loads layout unmapped cs ps qs a f g =
    let h = a.pieces.1 in
    let most = a.pieces.2 in
    let larger = h.larger in
    let file = file_bound layout.len layout.loads h.offsets unmapped (2 * length layout.loads + 1) cs ps a.len_fits a.loads_fit h.offsets_cut (omega arith) (omega arith) f in
    let vm = vm_bound layout.len layout.loads h.positions unmapped (2 * length layout.loads + 1) cs qs a.mapped_fits h.positions_cut (omega arith) g in
    omega arith

is_some-if : {X : Type 0} (b : Bool) (x : X) → is_some (cond b (Some x) None) ≡ b
is_some-if true x = refl
is_some-if false x = refl

-- Cuts of the two labellings label exactly the offsets and the mapped positions.
pub is_over : (layout : Layout) (unmapped : ℕ) (cs : List Claim) (file vm : List Piece) → IsCut (offset_labelling layout.len layout.loads unmapped cs) file → IsCut (address_labelling layout.len layout.loads unmapped cs) vm → IsOver layout (record { file = file; vm = vm })
is_over layout unmapped cs file vm f g = record {
  offsets = λ o. ap is_some (f.labels o) ∙ is_some-if (ltb o layout.len) (offset_label layout.len layout.loads unmapped cs o);
  positions = λ p.
      ap is_some (g.labels p) ∙ is_some-if (is_mapped layout.loads p) (address_label layout.len layout.loads unmapped cs (space_of p) (address_of p));
}

first_below : {C : Type 0} (covers : C → Bool) (label : C → ℕ) (unmapped n : ℕ) (cs : List C) → unmapped < n → All (λ (c : C). label c < n) cs → first_label covers label unmapped cs < n
first_below covers label unmapped n [] h a = h
first_below covers label unmapped n (c ∷ cs) h a =
    step (covers c) (label c) (first_label covers label unmapped cs) n (All-head (λ c. label c < n) c cs a) (first_below covers label unmapped n cs h (All-tail (λ c. label c < n) c cs a))
  where
    step : (b : Bool) (x y n : ℕ) → x < n → y < n → cond b x y < n
    step true x y n h k = h
    step false x y n h k = k

some_below : (b : Bool) (x y n : ℕ) → x < n → cond b (Some x) None ≡ Some y → y < n
some_below true x y n h e = let s : x ≡ y = same_Some x y e in omega arith
some_below false x y n h e = absurd (none-some y e)

labels_below : (labelling : ℕ → Option ℕ) (ps : List Piece) (n : ℕ) → IsCut labelling ps → ((x y : ℕ) → labelling x ≡ Some y → y < n) → All (λ (p : Piece). p.label < n) ps
labels_below labelling ps n c h k d l =
    let p = get_or ps k d in
    let some = some_len ps k d c.tidy l in
    h p.start p.label (label_of_piece labelling ps k d p.start c l (omega arith) (omega arith))

pub maps_below : (layout : Layout) (unmapped : ℕ) (cs : List Claim) (file vm : List Piece) (n : ℕ) → IsCut (offset_labelling layout.len layout.loads unmapped cs) file → IsCut (address_labelling layout.len layout.loads unmapped cs) vm → unmapped < n → All (λ (c : Claim). c.label < n) cs → LabelsBelow n (record { file = file; vm = vm })
maps_below layout unmapped cs file vm n f g h a = record {
  file = labels_below (offset_labelling layout.len layout.loads unmapped cs) file n f (λ o y e. some_below (ltb o layout.len) (offset_label layout.len layout.loads unmapped cs o) y n (first_below (λ (c : Claim). covers_offset layout.len layout.loads c.side c.vm c.file o) (λ (c : Claim). c.label) unmapped n cs h a) e);
  vm = labels_below (address_labelling layout.len layout.loads unmapped cs) vm n g (λ p y e. some_below (is_mapped layout.loads p) (address_label layout.len layout.loads unmapped cs (space_of p) (address_of p)) y n (first_below (λ (c : Claim). covers_address layout.len layout.loads c.side c.vm c.file (space_of p) (address_of p)) (λ (c : Claim). c.label) unmapped n cs h a) e);
}
