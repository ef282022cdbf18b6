-- The ranges of claims have the labels of the claims.
use Rattle.std.proofs.Common.{◌≡◌, ◌+◌, ◌-◌, ◌*◌, ◌/◌, ◌%◌, ◌^◌, ◌<◌, ◌≤◌, ℕ, Bool, true, false, cond, ltb, ◌&&◌, List, [], ◌∷◌, is_some, Option, None, Some, length, get_or, refl, sym, ap, ◌∙◌, length-append, inl, inr, arith}
use Rattle.std.proofs.lemmas.Bool.Decides.{nat_tests}
use Rattle.std.proofs.lemmas.Bool.{cases_lt}
use Rattle.std.proofs.lemmas.Option.{none-some, same_Some}
use Rattle.std.specs.List.{All}
use Rattle.size_core.specs.declared.claim.Load.{Load}
use Rattle.size_core.specs.declared.claim.Span.{Span}
use Rattle.size_core.specs.declared.claim.Claim.{Claim}
use Rattle.size_core.specs.declared.claim.Side.{Side}
use Rattle.size_core.specs.declared.claim.Side.TheVariants.{File, Vm, Both}
use Rattle.size_model.specs.declared.piece.Piece.{Piece}
use Rattle.size_model.specs.Cut.{label_in, IsCut}
use Rattle.size_model.specs.Loads.{addr, place, is_mapped, space_of, address_of, IsLoad}
use Rattle.size_model.specs.Claims.{span_has, address_in, offset_in, covers_offset, covers_address}
use Rattle.size_model.specs.Labels.{offset_label, address_label, offset_labelling, address_labelling}
use Rattle.range_map.specs.Ranges.{EndsBy}
use Rattle.range_map.proofs.Pieces.{either, label_in-append, label_past}
use Rattle.dual_map.specs.declared.stretch.Stretch.{Stretch}
use Rattle.dual_map.specs.Layout.{load_of_offset, load_of_position}
use Rattle.dual_map.specs.Way.{ToFile, ToMemory, InMemory, position_if_any, source_of, no_load, Carries}
use Rattle.dual_map.specs.Index.{kept}
use Rattle.dual_map.specs.Ranges.{low_of, high_of, in_file, offsets_of, all_offsets, positions_of, all_positions}
use Rattle.dual_map.proofs.Carrying.{in_bounds, labelled, label_in-kept, label_in-carried, length-kept, length-carried}
use Rattle.dual_map.proofs.LoadLemmas.{first_covers_offset, first_covers_address, addr_none, offset_bounds, unmapped, placed_mapped}

abbrev within : Bool → Bool → ℕ → Option ℕ
within a b label = cond (a && b) (Some label) None

never : (a : Bool) (label : ℕ) → None ≡ within a false label
never true label = refl
never false label = refl

joined : (a b : Bool) (label other : ℕ) → either (within a b label) (cond a (Some other) None) ≡ cond a (Some (cond b label other)) None
joined true true label other = refl
joined true false label other = refl
joined false true label other = refl
joined false false label other = refl

in_file_has : (len label : ℕ) (s : Span) (o : ℕ) → label_in (in_file len label s ∷ []) o ≡ within (ltb o len) (span_has s o) label
in_file_has len label s o = grind (arith, nat_tests)

in_file_label : (len label : ℕ) (s : Span) (o : ℕ) → label_in (kept (in_file len label s ∷ [])) o ≡ within (ltb o len) (span_has s o) label
in_file_label len label s o = label_in-kept (in_file len label s ∷ []) o ∙ in_file_has len label s o

-- A span of addresses, as positions.
span_positions : (s : Span) (q r : ℕ) → r < 2 ^ 64 → in_bounds (low_of s) (high_of s) (q * 2 ^ 64 + r) ≡ address_in s (Some (q, r))
span_positions s q r b = grind (arith, nat_tests)

-- An offset that has an address lies in the file, and its address in its space.
pub record IsLoaded (len o : ℕ) (a : ℕ × ℕ) : Type 0 where
  pub fits : a.1 < 2 ^ 64
  pub in_file : ltb o len ≡ true

pub loaded_by : (len : ℕ) (ls : List Load) (o : ℕ) (a : ℕ × ℕ) (found : Option ℕ) → All IsLoad ls → load_of_offset len ls o ≡ found → addr len ls o ≡ Some a → IsLoaded len o a
loaded_by len ls o a None loads e h = absurd (none-some a (sym (addr_none len 0 ls o e) ∙ h))
loaded_by len ls o a (Some i) loads e h =
    let w = first_covers_offset len ls o i no_load e in
    let l = get_or ls i no_load in
    let b = offset_bounds len l o w.covers in
    let high = b.1 in
    let last = b.2 in
    let ends = (loads i no_load w.within).ends in
    let same : (l.space, l.vaddr + (o - l.offset)) ≡ a = same_Some _ _ (sym w.gives ∙ h) in
    let address : l.vaddr + (o - l.offset) ≡ a.1 = ap (λ (p : ℕ × ℕ). p.1) same in
    record { fits = omega arith; in_file = grind (arith, nat_tests) }

carried_label : (len : ℕ) (vm : Span) (label o : ℕ) (found : Option (ℕ × ℕ)) → ((a : ℕ × ℕ) → found ≡ Some a → IsLoaded len o a) → labelled (low_of vm) (high_of vm) label (position_if_any found) ≡ within (ltb o len) (address_in vm found) label
carried_label len vm label o None h = never (ltb o len) label
carried_label len vm label o (Some a) h =
    let w = h a refl in
    ap (λ b. cond b (Some label) None) (span_positions vm a.0 a.1 w.fits) ∙ sym (ap (λ b. within b (address_in vm (Some a)) label) w.in_file)

-- The ranges of offsets of a claim.
offsets_label : (side : Side) (len : ℕ) (ls : List Load) (to_file : List Stretch) (vm file : Span) (label o : ℕ) → All IsLoad ls → Carries (source_of ToFile len ls) to_file → label_in (offsets_of side len to_file vm file label) o ≡ within (ltb o len) (covers_offset len ls side vm file o) label
offsets_label File len ls to_file vm file label o loads c = in_file_label len label file o
offsets_label Both len ls to_file vm file label o loads c = in_file_label len label file o
offsets_label Vm len ls to_file vm file label o loads c =
    label_in-carried (source_of ToFile len ls) (low_of vm) (high_of vm) label to_file o c ∙ carried_label len vm label o (addr len ls o) (λ a e. loaded_by len ls o a (load_of_offset len ls o) loads refl e)

whole_label : (len unmapped o : ℕ) → label_in (record { start = 0; len = len; label = unmapped } ∷ []) o ≡ cond (ltb o len) (Some unmapped) None
whole_label len unmapped o = grind (arith, nat_tests)

-- The ranges of all claims have the labelling of the file.
pub label_in-all_offsets : (len : ℕ) (ls : List Load) (to_file : List Stretch) (unmapped : ℕ) (cs : List Claim) (o : ℕ) → All IsLoad ls → Carries (source_of ToFile len ls) to_file → label_in (all_offsets len to_file unmapped cs) o ≡ offset_labelling len ls unmapped cs o
label_in-all_offsets len ls to_file unmapped [] o loads c =
    label_in-kept (record { start = 0; len = len; label = unmapped } ∷ []) o ∙ whole_label len unmapped o
label_in-all_offsets len ls to_file unmapped (k ∷ cs) o loads c =
    let ps = offsets_of k.side len to_file k.vm k.file k.label in
    let rest = all_offsets len to_file unmapped cs in
    let b = covers_offset len ls k.side k.vm k.file o in
    label_in-append ps rest o ∙ (ap (λ x. either x (label_in rest o)) (offsets_label k.side len ls to_file k.vm k.file k.label o loads c) ∙ (ap (λ x. either (within (ltb o len) b k.label) x) (label_in-all_offsets len ls to_file unmapped cs o loads c) ∙ joined (ltb o len) b k.label (offset_label len ls unmapped cs o)))

still_label : (vm : Span) (label p q r : ℕ) (m : Bool) → p ≡ q * 2 ^ 64 + r → r < 2 ^ 64 → labelled (low_of vm) (high_of vm) label (cond m (Some p) None) ≡ within m (address_in vm (Some (q, r))) label
still_label vm label p q r true e h =
    ap (λ v. cond (in_bounds (low_of vm) (high_of vm) v) (Some label) None) e ∙ ap (λ b. cond b (Some label) None) (span_positions vm q r h)
still_label vm label p q r false e h = refl

placed_label : (file : Span) (label : ℕ) (m : Bool) (found : Option ℕ) → ((v : ℕ) → found ≡ Some v → m ≡ true) → labelled file.start (file.start + file.len) label found ≡ within m (offset_in file found) label
placed_label file label m None h = never m label
placed_label file label m (Some v) h = sym (ap (λ b. within b (span_has file v) label) (h v refl))

-- The ranges of positions of a claim.
positions_label : (side : Side) (len : ℕ) (ls : List Load) (to_memory in_memory : List Stretch) (vm file : Span) (label p : ℕ) → Carries (source_of ToMemory len ls) to_memory → Carries (source_of InMemory len ls) in_memory → label_in (positions_of side to_memory in_memory vm file label) p ≡ within (is_mapped ls p) (covers_address len ls side vm file (space_of p) (address_of p)) label
positions_label File len ls to_memory in_memory vm file label p c d =
    label_in-carried (source_of ToMemory len ls) file.start (file.start + file.len) label to_memory p c ∙ placed_label file label (is_mapped ls p) (place len ls (space_of p) (address_of p)) (λ v e. placed_mapped len ls (space_of p) (address_of p) v e)
positions_label Vm len ls to_memory in_memory vm file label p c d =
    label_in-carried (source_of InMemory len ls) (low_of vm) (high_of vm) label in_memory p d ∙ still_label vm label p (p / 2 ^ 64) (p % 2 ^ 64) (is_mapped ls p) (omega arith) (omega arith)
positions_label Both len ls to_memory in_memory vm file label p c d =
    label_in-carried (source_of InMemory len ls) (low_of vm) (high_of vm) label in_memory p d ∙ still_label vm label p (p / 2 ^ 64) (p % 2 ^ 64) (is_mapped ls p) (omega arith) (omega arith)

all_mapped_label : (label p : ℕ) (m : Bool) → (m ≡ true → p < 2 ^ 96) → labelled 0 (2 ^ 96) label (cond m (Some p) None) ≡ cond m (Some label) None
all_mapped_label label p true h =
    let b = h refl in
    let e : in_bounds 0 (2 ^ 96) p ≡ true = grind (arith, nat_tests) in
    ap (λ t. cond t (Some label) None) e
all_mapped_label label p false h = refl

-- Whether a position is mapped, by its first load.
pub is_some-load : (ls : List Load) (p : ℕ) (found : Option ℕ) → load_of_position ls p ≡ found → is_some found ≡ is_mapped ls p
is_some-load ls p None e = sym (unmapped 0 ls (space_of p) (address_of p) e)
is_some-load ls p (Some i) e = sym (first_covers_address 0 ls p i no_load e).is_mapped

some_below : (ls : List Load) (ps : List Piece) (p : ℕ) (found : Option ℕ) → EndsBy (2 ^ 96) ps → label_in ps p ≡ found → is_some found ≡ true → p < 2 ^ 96
some_below ls ps p None ends e h = cc
some_below ls ps p (Some i) ends e h =
    elim (cases_lt p (2 ^ 96)) [ inl l ↦ l | inr l ↦ absurd (none-some i (sym (label_past ps (2 ^ 96) p ends l) ∙ e)) ]

pub mapped_below : (ls : List Load) (ps : List Piece) (p : ℕ) → EndsBy (2 ^ 96) ps → IsCut (load_of_position ls) ps → is_mapped ls p ≡ true → p < 2 ^ 96
mapped_below ls ps p ends c h =
    some_below ls ps p (label_in ps p) ends refl (ap is_some (c.labels p) ∙ (is_some-load ls p (load_of_position ls p) refl ∙ h))

-- The ranges of all claims have the labelling of the mapped positions.
pub label_in-all_positions : (len : ℕ) (ls : List Load) (to_memory in_memory : List Stretch) (unmapped : ℕ) (cs : List Claim) (p : ℕ) → (is_mapped ls p ≡ true → p < 2 ^ 96) → Carries (source_of ToMemory len ls) to_memory → Carries (source_of InMemory len ls) in_memory → label_in (all_positions to_memory in_memory unmapped cs) p ≡ address_labelling len ls unmapped cs p
label_in-all_positions len ls to_memory in_memory unmapped [] p h c d =
    label_in-carried (source_of InMemory len ls) 0 (2 ^ 96) unmapped in_memory p d ∙ all_mapped_label unmapped p (is_mapped ls p) h
label_in-all_positions len ls to_memory in_memory unmapped (k ∷ cs) p h c d =
    let qs = positions_of k.side to_memory in_memory k.vm k.file k.label in
    let rest = all_positions to_memory in_memory unmapped cs in
    let b = covers_address len ls k.side k.vm k.file (space_of p) (address_of p) in
    label_in-append qs rest p ∙ (ap (λ x. either x (label_in rest p)) (positions_label k.side len ls to_memory in_memory k.vm k.file k.label p c d) ∙ (ap (λ x. either (within (is_mapped ls p) b k.label) x) (label_in-all_positions len ls to_memory in_memory unmapped cs p h c d) ∙ joined (is_mapped ls p) b k.label (address_label len ls unmapped cs (space_of p) (address_of p))))

-- The number of ranges.
length-offsets_of : (side : Side) (len : ℕ) (to_file : List Stretch) (vm file : Span) (label m : ℕ) → length to_file ≤ m → 1 ≤ m → length (offsets_of side len to_file vm file label) ≤ m
length-offsets_of File len to_file vm file label m a b = omega (arith, length-kept (in_file len label file ∷ []))
length-offsets_of Both len to_file vm file label m a b = omega (arith, length-kept (in_file len label file ∷ []))
length-offsets_of Vm len to_file vm file label m a b = omega (arith, length-carried (low_of vm) (high_of vm) label to_file)

pub length-all_offsets : (len : ℕ) (to_file : List Stretch) (unmapped : ℕ) (cs : List Claim) (m : ℕ) → length to_file ≤ m → 1 ≤ m → length (all_offsets len to_file unmapped cs) ≤ length cs * m + 1
length-all_offsets len to_file unmapped [] m a b = omega (arith, length-kept (record { start = 0; len = len; label = unmapped } ∷ []))
length-all_offsets len to_file unmapped (k ∷ cs) m a b =
    let one = length-offsets_of k.side len to_file k.vm k.file k.label m a b in
    let more = length-all_offsets len to_file unmapped cs m a b in
    omega (arith, length-append (offsets_of k.side len to_file k.vm k.file k.label) (all_offsets len to_file unmapped cs))

length-positions_of : (side : Side) (to_memory in_memory : List Stretch) (vm file : Span) (label m : ℕ) → length to_memory ≤ m → length in_memory ≤ m → length (positions_of side to_memory in_memory vm file label) ≤ m
length-positions_of File to_memory in_memory vm file label m a b = omega (arith, length-carried file.start (file.start + file.len) label to_memory)
length-positions_of Both to_memory in_memory vm file label m a b = omega (arith, length-carried (low_of vm) (high_of vm) label in_memory)
length-positions_of Vm to_memory in_memory vm file label m a b = omega (arith, length-carried (low_of vm) (high_of vm) label in_memory)

pub length-all_positions : (to_memory in_memory : List Stretch) (unmapped : ℕ) (cs : List Claim) (m : ℕ) → length to_memory ≤ m → length in_memory ≤ m → length (all_positions to_memory in_memory unmapped cs) ≤ (length cs + 1) * m
length-all_positions to_memory in_memory unmapped [] m a b = omega (arith, length-carried 0 (2 ^ 96) unmapped in_memory)
length-all_positions to_memory in_memory unmapped (k ∷ cs) m a b =
    let one = length-positions_of k.side to_memory in_memory k.vm k.file k.label m a b in
    let more = length-all_positions to_memory in_memory unmapped cs m a b in
    omega (arith, length-append (positions_of k.side to_memory in_memory k.vm k.file k.label) (all_positions to_memory in_memory unmapped cs))
