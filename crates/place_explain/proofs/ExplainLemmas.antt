-- The claims that cover a byte, one after the other.
use Rattle.std.proofs.Common.{◌≡◌, ◌+◌, ◌-◌, ◌<◌, ◌≤◌, ℕ, zero, suc, Bool, true, false, cond, List, [], ◌∷◌, ◌++◌, length, map, take, get_or, slice_get, Some, refl, sym, ap, ◌∙◌, arith}
use Rattle.std.specs.Prelude.{◌==◌}
use Rattle.std.specs.List.{All}
use Rattle.std.proofs.lemmas.List.{length-map, length-take, map_more, take-map}
use Rattle.std.proofs.lemmas.Option.{get_or_from_slice_get, slice_get_within}
use Rattle.size_core.specs.declared.claim.Claim.{Claim}
use Rattle.size_core.specs.declared.claim.Load.{Load}
use Rattle.size_core.specs.declared.claim.Side.{Side}
use Rattle.size_core.specs.declared.claim.Span.{Span}
use Rattle.size_core.specs.declared.place.Place.{Place}
use Rattle.size_core.specs.declared.place.Place.TheVariants.{Offset, Address}
use Rattle.size_model.specs.Claims.{covers_offset, covers_address}
use Rattle.size_model.specs.Labels.{first_label}
use Rattle.size_model.specs.Numbered.{labelled, numbered_view, text_of}
use Rattle.size_model.specs.Sizes.{relabelled}
use Rattle.size_model.specs.declared.view.LabelledClaim.{LabelledClaim}
use Rattle.place_explain.specs.Explanation.{covering, covering_place, explained, label_of_first, named}
use Rattle.place_explain.specs.Laws.{FirstHasLabel, RewritesTheLabelAlone}
use Rattle.place_explain.specs.Naming.{IsNumber, named_at, no_claim}
use Rattle.place_explain.specs.Numbers.{numbers_of, over_limit, within_limit}
use Rattle.place_explain.specs.Places.{claim_covers, labelled_covers}
use Rattle.place_explain.specs.declared.named.Explained.{Explained}
use Rattle.place_explain.specs.declared.named.NamedClaim.{NamedClaim}
use Rattle.place_explain.specs.declared.named.PlaceSource.{PlaceSource}

-- The first claim that covers gives the label.
rewritten-step : (rewritten : List ℕ → List ℕ) (unmapped : List ℕ) (n : ℕ) (c : LabelledClaim) (found : List NamedClaim) (later : List ℕ) (b : Bool) → later ≡ rewritten (label_of_first unmapped found)
    → cond b (rewritten c.label) later ≡ rewritten (label_of_first unmapped (cond b (named n c ∷ found) found))
rewritten-step rewritten unmapped n c found later true e = refl
rewritten-step rewritten unmapped n c found later false e = e

rewritten-first : (test : Side → Span → Span → Bool) (rewritten : List ℕ → List ℕ) (unmapped : List ℕ) (n : ℕ) (cs : List LabelledClaim)
    → first_label (λ (c : LabelledClaim). test c.side c.vm c.file) (λ (c : LabelledClaim). c.label) (rewritten unmapped) (map (relabelled rewritten) cs)
    ≡ rewritten (label_of_first unmapped (covering (λ (c : LabelledClaim). test c.side c.vm c.file) n cs))
rewritten-first test rewritten unmapped n [] = refl
rewritten-first test rewritten unmapped n (c ∷ cs) =
    rewritten-step rewritten unmapped n c (covering (λ (c : LabelledClaim). test c.side c.vm c.file) (n + 1) cs) _ (test c.side c.vm c.file) (rewritten-first test rewritten unmapped (n + 1) cs)

pub FirstHasLabel-all : FirstHasLabel
FirstHasLabel-all f (Offset o) rewritten s = rewritten-first (λ side vm file. covers_offset f.len f.loads side vm file o) rewritten s.unmapped 1 s.claims
FirstHasLabel-all f (Address space x) rewritten s = rewritten-first (λ side vm file. covers_address f.len f.loads side vm file space x) rewritten s.unmapped 1 s.claims

abbrev with_label : List ℕ → List NamedClaim → ℕ → List ℕ → PlaceSource
with_label name claims more label = record { name = name; label = label; claims = claims; more = more }

pub RewritesTheLabelAlone-all : RewritesTheLabelAlone
RewritesTheLabelAlone-all f spot limit name rewritten s =
    let found : List NamedClaim = covering_place f.len f.loads spot s in
    ap (with_label name (within_limit limit found) (over_limit limit found)) (FirstHasLabel-all f spot rewritten s)

-- The names so far.
pub names-more : {X Y : Type 0} (f : X → Y) (old new : List Y) (xs : List X) (k : ℕ) (x : X) (y : Y) → slice_get xs k ≡ Some x → old ≡ map f (take k xs) → y ≡ f x → new ≡ old ++ y ∷ [] → new ≡ map f (take (k + 1) xs)
names-more f old new xs k x y at is named more =
    more ∙ (ap (λ z. old ++ z ∷ []) named ∙ (ap (λ o. o ++ f x ∷ []) is
    ∙ (ap (λ z. map f (take k xs) ++ f z ∷ []) (sym (get_or_from_slice_get xs k x x at)) ∙ sym (map_more f xs k x (slice_get_within xs k x at)))))

-- A number from first on, among count numbers.
record IsAmong (first count n : ℕ) : Type 0 where
  low : first ≤ n
  high : n < first + count

within-step : (n count : ℕ) (rest : List ℕ) (b : Bool) → ((k d : ℕ) → k < length rest → IsAmong (n + 1) count (get_or rest k d))
    → (k d : ℕ) → k < length (cond b (n ∷ rest) rest) → IsAmong n (suc count) (get_or (cond b (n ∷ rest) rest) k d)
within-step n count rest true all zero d lt = record { low = omega arith; high = omega arith }
within-step n count rest true all (suc k) d lt = let h : IsAmong (n + 1) count (get_or rest k d) = all k d (omega arith) in record { low = omega arith; high = omega arith }
within-step n count rest false all k d lt = let h : IsAmong (n + 1) count (get_or rest k d) = all k d lt in record { low = omega arith; high = omega arith }

numbers-among : {X : Type 0} (test : X → Bool) (n : ℕ) (xs : List X) (k d : ℕ) → k < length (numbers_of test n xs) → IsAmong n (length xs) (get_or (numbers_of test n xs) k d)
numbers-among test n [] k d lt = absurd (omega arith)
numbers-among test n (x ∷ xs) k d lt = within-step n (length xs) (numbers_of test (n + 1) xs) (test x) (numbers-among test (n + 1) xs) k d lt

-- Each is the number of a claim.
pub numbers-within : (test : Claim → Bool) (claims : List Claim) (numbers : List ℕ) → numbers ≡ numbers_of test 1 claims → All (IsNumber claims) numbers
numbers-within test claims numbers is = rw is (λ k d lt. above (get_or (numbers_of test 1 claims) k d) (numbers-among test 1 claims k d lt))
  where
    above : (n : ℕ) → IsAmong 1 (length claims) n → IsNumber claims n
    above n among = record { above = omega arith; within = omega arith }

-- The claims with these numbers are those that cover the byte.
named-step : (f : ℕ → NamedClaim) (n : ℕ) (c : NamedClaim) (ns : List ℕ) (found : List NamedClaim) (b : Bool) → f n ≡ c → map f ns ≡ found → map f (cond b (n ∷ ns) ns) ≡ cond b (c ∷ found) found
named-step f n c ns found true here e = ap (λ d. d ∷ map f ns) here ∙ ap (λ cs. c ∷ cs) e
named-step f n c ns found false here e = e

named-from : (pool : List (List ℕ)) (test : LabelledClaim → Bool) (f : ℕ → NamedClaim) (n : ℕ) (cs : List Claim) → ((k : ℕ) → k < length cs → f (n + k) ≡ named (n + k) (labelled pool (get_or cs k no_claim)))
    → map f (numbers_of (λ (c : Claim). test (labelled pool c)) n cs) ≡ covering test n (map (labelled pool) cs)
named-from pool test f n [] names = refl
named-from pool test f n (c ∷ cs) names =
    let none : n + 0 ≡ n = omega arith in
    let here : f n ≡ named n (labelled pool c) = ap f (sym none) ∙ (names 0 (omega arith) ∙ ap (λ m. named m (labelled pool c)) none) in
    named-step f n (named n (labelled pool c)) (numbers_of (λ (c : Claim). test (labelled pool c)) (n + 1) cs) (covering test (n + 1) (map (labelled pool) cs)) (test (labelled pool c)) here
    (named-from pool test f (n + 1) cs (λ k lt. next k lt))
  where
    next : (k : ℕ) → k < length cs → f (n + 1 + k) ≡ named (n + 1 + k) (labelled pool (get_or cs k no_claim))
    next k lt =
        let same : n + suc k ≡ n + 1 + k = omega arith in
        ap f (sym same) ∙ (names (suc k) (omega arith) ∙ ap (λ m. named m (labelled pool (get_or cs k no_claim))) same)

named-all : (pool : List (List ℕ)) (len : ℕ) (loads : List Load) (spot : Place) (claims : List Claim)
    → map (named_at pool claims) (numbers_of (claim_covers len loads spot) 1 claims) ≡ covering (labelled_covers len loads spot) 1 (map (labelled pool) claims)
named-all pool len loads spot claims =
    named-from pool (labelled_covers len loads spot) (named_at pool claims) 1 claims
    (λ k lt. let same : 1 + k - 1 ≡ k = omega arith in ap (λ m. named (1 + k) (labelled pool (get_or claims m no_claim))) same)

-- What a limit keeps.
limit-map : {X Y : Type 0} (f : X → Y) (b : Bool) (n : ℕ) (xs : List X) → map f (cond b xs (take n xs)) ≡ cond b (map f xs) (take n (map f xs))
limit-map f true n xs = refl
limit-map f false n xs = sym (take-map f n xs)

limit-first : (unmapped : List ℕ) (b : Bool) (n : ℕ) (cs : List NamedClaim) → label_of_first unmapped (cond b cs (take (suc n) cs)) ≡ label_of_first unmapped cs
limit-first unmapped true n cs = refl
limit-first unmapped false n [] = refl
limit-first unmapped false n (c ∷ cs) = refl

limit-rest : {X : Type 0} (b : Bool) (n : ℕ) (xs : List X) → length xs - length (cond b xs (take n xs)) ≡ cond b 0 (length xs - n)
limit-rest true n xs = omega arith
limit-rest false n xs = omega (arith, length-take n xs)

abbrev said : List ℕ → List NamedClaim → ℕ → Explained
said label claims more = record { label = label; claims = claims; more = more }

pub explained-all : (len : ℕ) (loads : List Load) (spot : Place) (limit : ℕ) (pool : List (List ℕ)) (claims : List Claim) (unmapped : ℕ) (numbers : List ℕ) (label : List ℕ) (names : List NamedClaim) (all few : ℕ)
    → numbers ≡ numbers_of (claim_covers len loads spot) 1 claims → names ≡ map (named_at pool claims) (within_limit limit numbers) → label ≡ label_of_first (text_of pool unmapped) names
    → all ≡ length numbers → few ≡ length names
    → said label names (all - few) ≡ explained len loads spot limit (numbered_view pool claims unmapped)
explained-all len loads spot limit pool claims unmapped numbers label names all few is names_are label_is all_is few_is =
    let text : List ℕ = text_of pool unmapped in
    let f : ℕ → NamedClaim = named_at pool claims in
    let found : List NamedClaim = covering_place len loads spot (numbered_view pool claims unmapped) in
    let one : limit + 1 ≡ suc limit = omega arith in
    let every : map f numbers ≡ found = ap (map f) is ∙ named-all pool len loads spot claims in
    let first : names ≡ within_limit limit found = names_are ∙ (limit-map f (limit == 0) (limit + 1) numbers ∙ ap (within_limit limit) every) in
    let is_label : label ≡ label_of_first text found =
    label_is ∙ (ap (label_of_first text) first ∙ (ap (λ m. label_of_first text (cond (limit == 0) found (take m found))) one ∙ limit-first text (limit == 0) limit found)) in
    let as_many : all ≡ length found = all_is ∙ (sym (length-map numbers f) ∙ ap length every) in
    let rest : all - few ≡ over_limit limit found =
    ap (λ n. n - few) as_many ∙ (ap (λ n. length found - n) (few_is ∙ ap length first) ∙ limit-rest (limit == 0) (limit + 1) found) in
    ap (λ l. said l names (all - few)) is_label ∙ (ap (λ cs. said (label_of_first text found) cs (all - few)) first ∙ ap (said (label_of_first text found) (within_limit limit found)) rest)
