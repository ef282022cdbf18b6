-- The labels by layers of claims are those of the claims.
use Rattle.std.proofs.Common.{◌≡◌, ◌+◌, ◌-◌, ◌*◌, ◌/◌, ◌%◌, ◌^◌, ◌<◌, ◌≤◌, ℕ, zero, suc, min, Bool, true, false, cond, ltb, ◌&&◌, ◌||◌, List, [], ◌∷◌, ◌++◌, Option, None, Some, length, get_or, refl, sym, ap, ◌∙◌, arith}
use Rattle.std.proofs.lemmas.Bool.Decides.{nat_tests}
use Rattle.std.specs.List.{All}
use Rattle.size_core.specs.declared.claim.Load.{Load}
use Rattle.size_core.specs.declared.claim.Span.{Span}
use Rattle.size_core.specs.declared.claim.Claim.{Claim}
use Rattle.size_core.specs.declared.claim.Side.{Side}
use Rattle.size_core.specs.declared.claim.Side.TheVariants.{File, Vm, Both}
use Rattle.size_model.specs.declared.piece.Piece.{Piece}
use Rattle.size_model.specs.Cut.{has, label_in, IsCut, IsLaid}
use Rattle.size_model.specs.Loads.{addr, place, is_mapped, space_of, address_of, IsLoad}
use Rattle.size_model.specs.Claims.{span_has, address_in, offset_in, covers_offset, covers_address}
use Rattle.size_model.specs.Labels.{first_label, offset_labelling, address_labelling}
use Rattle.dual_map.specs.declared.layers.Layer.{Layer}
use Rattle.dual_map.specs.declared.layers.Layers.{Layers}
use Rattle.dual_map.specs.Layers.{is_side, wanted, offset_range, position_range, claim_ranges, labels_of, AreLayers}
use Rattle.dual_map.specs.Layout.{Layout, IsLayout, load_of_offset}
use Rattle.dual_map.specs.Paint.{carried_number, number_of, label_of, offset_labels, position_labels, HasNumbers}
use Rattle.dual_map.specs.Runs.{number_or, number_in}
use Rattle.dual_map.specs.Way.{position_if_any, position_at}
use Rattle.dual_map.proofs.ClaimLemmas.{loaded_by}

-- The number of the first claim that passes a test, or the number of claims.
abbrev first_claim : (Claim → Bool) → List Claim → ℕ
first_claim test [] = zero
first_claim test (c ∷ cs) = cond (test c) zero (suc (first_claim test cs))

first_claim_le : (test : Claim → Bool) (cs : List Claim) → first_claim test cs ≤ length cs
first_claim_le test [] = omega arith
first_claim_le test (c ∷ cs) = step (test c) (first_claim test cs) (length cs) (first_claim_le test cs)
  where
    step : (b : Bool) (n len : ℕ) → n ≤ len → cond b zero (suc n) ≤ suc len
    step true n len h = omega arith
    step false n len h = omega arith

first_claim_none : (test : Claim → Bool) (cs : List Claim) → ((c : Claim) → test c ≡ false) → first_claim test cs ≡ length cs
first_claim_none test [] h = refl
first_claim_none test (c ∷ cs) h =
    ap (λ b. cond b zero (suc (first_claim test cs))) (h c) ∙ ap (λ n. suc n) (first_claim_none test cs h)

first_of_two : (f g : Claim → Bool) (cs : List Claim) → min (first_claim f cs) (first_claim g cs) ≡ first_claim (λ c. f c || g c) cs
first_of_two f g [] = refl
first_of_two f g (c ∷ cs) = step (f c) (g c) (first_claim f cs) (first_claim g cs) _ (first_of_two f g cs)
  where
    step : (p q : Bool) (a b r : ℕ) → min a b ≡ r → min (cond p zero (suc a)) (cond q zero (suc b)) ≡ cond (p || q) zero (suc r)
    step true true a b r h = omega arith
    step true false a b r h = omega arith
    step false true a b r h = omega arith
    step false false a b r h = omega arith

number_step : (b t : Bool) (p : Piece) (ps : List Piece) (x n len first : ℕ) → has p x ≡ t → p.label ≡ n → number_or (n + 1 + len) (label_in ps x) ≡ n + 1 + first
    → number_or (n + suc len) (label_in (wanted b p ++ ps) x) ≡ n + cond (b && t) zero (suc first)
number_step true true p ps x n len first h e ih =
    ap (λ t. number_or (n + suc len) (cond t (Some p.label) (label_in ps x))) h ∙ omega arith
number_step true false p ps x n len first h e ih =
    let k : n + suc len ≡ n + 1 + len = omega arith in
    ap (λ t. number_or (n + suc len) (cond t (Some p.label) (label_in ps x))) h ∙ (ap (λ m. number_or m (label_in ps x)) k ∙ omega arith)
number_step false t p ps x n len first h e ih =
    let k : n + suc len ≡ n + 1 + len = omega arith in
    ap (λ m. number_or m (label_in ps x)) k ∙ omega arith

-- The ranges of claims number the first claim that has a position.
number_from : (range : ℕ → Claim → Piece) (side : Side) (test : Claim → Bool) (n : ℕ) (cs : List Claim) (x : ℕ) → ((k : ℕ) (c : Claim) → has (range k c) x ≡ test c) → ((k : ℕ) (c : Claim) → (range k c).label ≡ k)
    → number_or (n + length cs) (label_in (claim_ranges range side n cs) x) ≡ n + first_claim (λ c. is_side c.side side && test c) cs
number_from range side test n [] x h e = refl
number_from range side test n (c ∷ cs) x h e =
    number_step (is_side c.side side) (test c) (range n c) (claim_ranges range side (n + 1) cs) x n (length cs) (first_claim (λ c. is_side c.side side && test c) cs) (h n c) (e n c) (number_from range side test (n + 1) cs x h e)

number_laid : (range : ℕ → Claim → Piece) (side : Side) (test : Claim → Bool) (cs : List Claim) (ps : List Piece) (x : ℕ) → IsLaid (claim_ranges range side 0 cs) ps → ((k : ℕ) (c : Claim) → has (range k c) x ≡ test c) → ((k : ℕ) (c : Claim) → (range k c).label ≡ k)
    → number_in (length cs) ps x ≡ first_claim (λ c. is_side c.side side && test c) cs
number_laid range side test cs ps x l h e =
    let zero_more : 0 + length cs ≡ length cs = omega arith in
    let from_zero : 0 + first_claim (λ c. is_side c.side side && test c) cs ≡ first_claim (λ c. is_side c.side side && test c) cs = omega arith in
    ap (number_or (length cs)) (l.labels x) ∙ (ap (λ m. number_or m (label_in (claim_ranges range side 0 cs) x)) (sym zero_more) ∙ (number_from range side test 0 cs x h e ∙ from_zero))

number_offset : (side : Side) (cs : List Claim) (ps : List Piece) (o : ℕ) → IsLaid (claim_ranges offset_range side 0 cs) ps → number_in (length cs) ps o ≡ first_claim (λ c. is_side c.side side && span_has c.file o) cs
number_offset side cs ps o l =
    number_laid offset_range side (λ c. span_has c.file o) cs ps o l (λ k c. refl) (λ k c. refl)

has_position : (k : ℕ) (c : Claim) (x q r : ℕ) → x ≡ q * 2 ^ 64 + r → r < 2 ^ 64 → has (position_range k c) x ≡ address_in c.vm (Some (q, r))
has_position k c x q r e h = grind (arith, nat_tests)

number_position : (side : Side) (cs : List Claim) (ps : List Piece) (x q r : ℕ) → x ≡ q * 2 ^ 64 + r → r < 2 ^ 64 → IsLaid (claim_ranges position_range side 0 cs) ps → number_in (length cs) ps x ≡ first_claim (λ c. is_side c.side side && address_in c.vm (Some (q, r))) cs
number_position side cs ps x q r e h l =
    number_laid position_range side (λ c. address_in c.vm (Some (q, r))) cs ps x l (λ k c. has_position k c x q r e h) (λ k c. refl)

and_false : (b : Bool) → b && false ≡ false
and_false true = refl
and_false false = refl

or_false : (b : Bool) → b || false ≡ b
or_false true = refl
or_false false = refl

-- What loads carry.
number_to_file : (cs : List Claim) (ps : List Piece) (found : Option (ℕ × ℕ)) → IsLaid (claim_ranges position_range Vm 0 cs) ps → ((a : ℕ × ℕ) → found ≡ Some a → a.1 < 2 ^ 64) → carried_number (length cs) ps (position_if_any found) ≡ first_claim (λ c. is_side c.side Vm && address_in c.vm found) cs
number_to_file cs ps None l h = sym (first_claim_none (λ c. is_side c.side Vm && false) cs (λ c. and_false (is_side c.side Vm)))
number_to_file cs ps (Some a) l h = number_position Vm cs ps (position_at a) a.0 a.1 refl (h a refl) l

number_to_memory : (cs : List Claim) (ps : List Piece) (found : Option ℕ) → IsLaid (claim_ranges offset_range File 0 cs) ps → carried_number (length cs) ps found ≡ first_claim (λ c. is_side c.side File && offset_in c.file found) cs
number_to_memory cs ps None l = sym (first_claim_none (λ c. is_side c.side File && false) cs (λ c. and_false (is_side c.side File)))
number_to_memory cs ps (Some o) l = number_offset File cs ps o l

-- The tests of a claim, by its side.
test_offset : (side : Side) (len : ℕ) (ls : List Load) (vm file : Span) (o : ℕ) → (is_side side File && span_has file o || is_side side Both && span_has file o) || is_side side Vm && address_in vm (addr len ls o) ≡ covers_offset len ls side vm file o
test_offset File len ls vm file o = or_false (span_has file o || false) ∙ or_false (span_has file o)
test_offset Vm len ls vm file o = refl
test_offset Both len ls vm file o = or_false (span_has file o)

test_address : (side : Side) (len : ℕ) (ls : List Load) (vm file : Span) (q r : ℕ) → (is_side side Vm && address_in vm (Some (q, r)) || is_side side Both && address_in vm (Some (q, r))) || is_side side File && offset_in file (place len ls q r) ≡ covers_address len ls side vm file q r
test_address File len ls vm file q r = refl
test_address Vm len ls vm file q r = or_false (address_in vm (Some (q, r)) || false) ∙ or_false (address_in vm (Some (q, r)))
test_address Both len ls vm file q r = or_false (address_in vm (Some (q, r)))

-- The label of the first claim, by its number.
label_first : (test covers : Claim → Bool) (unmapped : ℕ) (cs : List Claim) → ((c : Claim) → test c ≡ covers c) → get_or (labels_of unmapped cs) (first_claim test cs) 0 ≡ first_label covers (λ c. c.label) unmapped cs
label_first test covers unmapped [] h = refl
label_first test covers unmapped (c ∷ cs) h =
    step (test c) (covers c) c.label (labels_of unmapped cs) (first_claim test cs) _ (h c) (label_first test covers unmapped cs h)
  where
    step : (b d : Bool) (label : ℕ) (labels : List ℕ) (n rest : ℕ) → b ≡ d → get_or labels n 0 ≡ rest → get_or (label ∷ labels) (cond b zero (suc n)) 0 ≡ cond d label rest
    step true true label labels n rest e h = refl
    step true false label labels n rest e h = cc
    step false true label labels n rest e h = cc
    step false false label labels n rest e h = h

length-labels_of : (unmapped : ℕ) (cs : List Claim) → length (labels_of unmapped cs) ≡ suc (length cs)
length-labels_of unmapped [] = refl
length-labels_of unmapped (c ∷ cs) = ap (λ n. suc n) (length-labels_of unmapped cs)

-- The number after those of all claims.
last_number : (unmapped : ℕ) (cs : List Claim) (l : Layers) → AreLayers cs unmapped l → length l.labels.items - 1 ≡ length cs
last_number unmapped cs l a = omega (arith, ap length a.labels, length-labels_of unmapped cs)

least_of_three : (a b d : ℕ) (f g h : Claim → Bool) (cs : List Claim) → a ≡ first_claim f cs → b ≡ first_claim g cs → d ≡ first_claim h cs → min (min a b) d ≡ first_claim (λ c. (f c || g c) || h c) cs
least_of_three a b d f g h cs p q r =
    ap (λ n. min (min n b) d) p ∙ (ap (λ n. min (min (first_claim f cs) n) d) q ∙ (ap (λ n. min n d) (first_of_two f g cs) ∙ (ap (λ n. min (first_claim (λ c. f c || g c) cs) n) r ∙ first_of_two (λ c. f c || g c) h cs)))

label_by_number : (labels : List ℕ) (l : Layer) (carried : List Piece) (source : Option ℕ) (x n : ℕ) (cs : List Claim) (unmapped : ℕ) → labels ≡ labels_of unmapped cs → length labels - 1 ≡ length cs → number_of (length cs) l carried source x ≡ n → label_of labels l carried source x ≡ get_or (labels_of unmapped cs) n 0
label_by_number labels l carried source x n cs unmapped e k h =
    ap (λ m. get_or labels (number_of m l carried source x) 0) k ∙ (ap (λ m. get_or labels m 0) h ∙ ap (λ ls. get_or ls n 0) e)

-- The labels of offsets.
offset_same : (len : ℕ) (ls : List Load) (unmapped : ℕ) (cs : List Claim) (l : Layers) (o : ℕ) → All IsLoad ls → AreLayers cs unmapped l → offset_labels len ls l o ≡ offset_labelling len ls unmapped cs o
offset_same len ls unmapped cs l o loads a =
    let found = addr len ls o in
    let number = least_of_three _ _ _ _ _ _ cs (number_offset File cs l.file.alone o a.file.alone) (number_offset Both cs l.file.both o a.file.both) (number_to_file cs l.memory.alone found a.memory.alone (λ p e. (loaded_by len ls o p (load_of_offset len ls o) loads refl e).fits)) in
    ap (λ n. cond (ltb o len) (Some n) None) (label_by_number l.labels.items l.file l.memory.alone (position_if_any found) o _ cs unmapped a.labels (last_number unmapped cs l a) number ∙ label_first _ (λ c. covers_offset len ls c.side c.vm c.file o) unmapped cs (λ c. test_offset c.side len ls c.vm c.file o))

-- The labels of positions.
position_same : (len : ℕ) (ls : List Load) (unmapped : ℕ) (cs : List Claim) (l : Layers) (p : ℕ) → AreLayers cs unmapped l → position_labels len ls l p ≡ address_labelling len ls unmapped cs p
position_same len ls unmapped cs l p a =
    let found = place len ls (p / 2 ^ 64) (p % 2 ^ 64) in
    let e : p ≡ p / 2 ^ 64 * 2 ^ 64 + p % 2 ^ 64 = omega arith in
    let b : p % 2 ^ 64 < 2 ^ 64 = omega arith in
    let number = least_of_three _ _ _ _ _ _ cs (number_position Vm cs l.memory.alone p (p / 2 ^ 64) (p % 2 ^ 64) e b a.memory.alone) (number_position Both cs l.memory.both p (p / 2 ^ 64) (p % 2 ^ 64) e b a.memory.both) (number_to_memory cs l.file.alone found a.file.alone) in
    ap (λ n. cond (is_mapped ls p) (Some n) None) (label_by_number l.labels.items l.memory l.file.alone found p _ cs unmapped a.labels (last_number unmapped cs l a) number ∙ label_first _ (λ c. covers_address len ls c.side c.vm c.file (space_of p) (address_of p)) unmapped cs (λ c. test_address c.side len ls c.vm c.file (space_of p) (address_of p)))

cut_same : (f g : ℕ → Option ℕ) (ps : List Piece) → ((x : ℕ) → f x ≡ g x) → IsCut f ps → IsCut g ps
cut_same f g ps h c = record { tidy = c.tidy; labels = λ x. c.labels x ∙ h x }

pub file_cut : (layout : Layout) (unmapped : ℕ) (cs : List Claim) (l : Layers) (ps : List Piece) → IsLayout layout → AreLayers cs unmapped l → IsCut (offset_labels layout.len layout.loads l) ps → IsCut (offset_labelling layout.len layout.loads unmapped cs) ps
file_cut layout unmapped cs l ps a b c =
    cut_same (offset_labels layout.len layout.loads l) (offset_labelling layout.len layout.loads unmapped cs) ps (λ x. offset_same layout.len layout.loads unmapped cs l x a.loads_fit b) c

pub vm_cut : (layout : Layout) (unmapped : ℕ) (cs : List Claim) (l : Layers) (ps : List Piece) → AreLayers cs unmapped l → IsCut (position_labels layout.len layout.loads l) ps → IsCut (address_labelling layout.len layout.loads unmapped cs) ps
vm_cut layout unmapped cs l ps b c =
    cut_same (position_labels layout.len layout.loads l) (address_labelling layout.len layout.loads unmapped cs) ps (λ x. position_same layout.len layout.loads unmapped cs l x b) c

-- Each number of a layer is that of a claim.
pub file_numbers : (unmapped : ℕ) (cs : List Claim) (l : Layers) → AreLayers cs unmapped l → HasNumbers l.labels.items l.file
file_numbers unmapped cs l a = record {
  some = omega (arith, ap length a.labels, length-labels_of unmapped cs);
  within = λ x.
      let e = ap (λ m. number_in m l.file.alone x) (last_number unmapped cs l a) ∙ number_offset File cs l.file.alone x a.file.alone in
      omega (arith, e, first_claim_le (λ c. is_side c.side File && span_has c.file x) cs, ap length a.labels, length-labels_of unmapped cs);
}

pub memory_numbers : (unmapped : ℕ) (cs : List Claim) (l : Layers) → AreLayers cs unmapped l → HasNumbers l.labels.items l.memory
memory_numbers unmapped cs l a = record {
  some = omega (arith, ap length a.labels, length-labels_of unmapped cs);
  within = λ x.
      let e = ap (λ m. number_in m l.memory.alone x) (last_number unmapped cs l a) ∙ number_position Vm cs l.memory.alone x (x / 2 ^ 64) (x % 2 ^ 64) (omega arith) (omega arith) a.memory.alone in
      omega (arith, e, first_claim_le (λ c. is_side c.side Vm && address_in c.vm (Some (x / 2 ^ 64, x % 2 ^ 64))) cs, ap length a.labels, length-labels_of unmapped cs);
}
