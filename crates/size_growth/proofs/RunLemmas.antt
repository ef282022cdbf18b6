-- Paths that share a label make one run.
use Rattle.std.proofs.Common.{◌≡◌, ◌≢◌, ℕ, suc, ◌+◌, ◌-◌, ◌<◌, ◌≤◌, List, [], ◌∷◌, ◌++◌, length, get_or, take, drop, map, refl, sym, ap, ◌∙◌, subst, Bool, true, false, cond, arith, inl, inr}
use Rattle.std.specs.Prelude.{⊤}
use Rattle.std.specs.List.{AllByRecursion}
use Rattle.std.specs.Str.{bytes_eq}
use Rattle.std.proofs.lemmas.Bool.{cases_Bool}
use Rattle.std.proofs.lemmas.List.{map-append, length-map, length-drop, length-take-le, take-append-drop, take-map, drop-map, take_rest, get_or-take, get_or-drop, drop-drop, drop_all}
use Rattle.report_rows.proofs.TableLemmas.{same_bytes, bytes_eq-same}
use Rattle.size_growth.specs.declared.growth.GrowthPath.{GrowthPath}
use Rattle.size_growth.specs.Groups.{IsRun, labels_at, mid}
use Rattle.size_growth.specs.Runs.{Under, first_label, joined, path_from, runs, table_at}

-- The first of the runs has another label.
abbrev Apart : List ℕ → List Under → Type 0
Apart l [] = ⊤
Apart l (u ∷ us) = bytes_eq l u.label ≡ false

-- The first of the paths has another label.
abbrev pub Next : List ℕ → List GrowthPath → Type 0
Next l [] = ⊤
Next l (q ∷ qs) = bytes_eq l (first_label q) ≡ false

apart-joined : (l : List ℕ) (q : GrowthPath) (us : List Under) → bytes_eq l (first_label q) ≡ false → Apart l (joined q us)
apart-joined l q [] e = e
apart-joined l q (u ∷ us) e = at (bytes_eq (first_label q) u.label)
  where
    at : (b : Bool) → Apart l (cond b (record { label = first_label q; below = path_from 1 q ∷ u.below } ∷ us) (record { label = first_label q; below = path_from 1 q ∷ [] } ∷ u ∷ us))
    at true = e
    at false = e

apart-runs : (l : List ℕ) (qs : List GrowthPath) → Next l qs → Apart l (runs qs)
unfolding runs
apart-runs l [] h = tt
apart-runs l (q ∷ qs) h = apart-joined l q (runs qs) h

alone : (p : GrowthPath) (us : List Under) → Apart (first_label p) us → joined p us ≡ record { label = first_label p; below = path_from 1 p ∷ [] } ∷ us
alone p [] h = refl
alone p (u ∷ us) h = rw h refl

joins : (p : GrowthPath) (u : Under) (us : List Under) → bytes_eq (first_label p) u.label ≡ true → joined p (u ∷ us) ≡ record { label = first_label p; below = path_from 1 p ∷ u.below } ∷ us
joins p u us h = rw h refl

front : (l : List ℕ) (p : GrowthPath) (ps bs : List GrowthPath) → first_label p ≡ l → AllByRecursion (λ (q : GrowthPath). first_label q ≡ l) ps → Next l bs
    → runs ((p ∷ ps) ++ bs) ≡ record { label = l; below = map (path_from 1) (p ∷ ps) } ∷ runs bs
unfolding runs
front l p [] bs e h next =
    let label : List ℕ → List Under = λ k. record { label = k; below = path_from 1 p ∷ [] } ∷ runs bs in
    alone p (runs bs) (subst (λ k. Apart k (runs bs)) (sym e) (apart-runs l bs next)) ∙ ap label e
front l p (q ∷ ps) bs e h next =
    let u : Under = record { label = l; below = map (path_from 1) (q ∷ ps) } in
    let label : List ℕ → List Under = λ k. record { label = k; below = path_from 1 p ∷ map (path_from 1) (q ∷ ps) } ∷ runs bs in
    ap (joined p) (front l q ps bs h.0 h.1 next) ∙ (joins p u (runs bs) (ap (λ k. bytes_eq k l) e ∙ bytes_eq-same l) ∙ ap label e)

front-of : (l : List ℕ) (ps bs : List GrowthPath) → 0 < length ps → AllByRecursion (λ (q : GrowthPath). first_label q ≡ l) ps → Next l bs
    → runs (ps ++ bs) ≡ record { label = l; below = map (path_from 1) ps } ∷ runs bs
front-of l [] bs some h next = absurd (omega arith)
front-of l (p ∷ ps) bs some h next = front l p ps bs h.0 h.1 next

-- The label at a level is the first one from there on.
first-at : (level : ℕ) (p : GrowthPath) → first_label (path_from level p) ≡ get_or p.path level []
first-at level p = let z : level + 0 ≡ level = omega arith in get_or-drop level p.path 0 [] ∙ ap (λ k. get_or p.path k []) z

labelled : (level : ℕ) (l : List ℕ) (ps : List GrowthPath) → ((k : ℕ) → k < length ps → get_or (labels_at level ps) k [] ≡ l) → AllByRecursion (λ (q : GrowthPath). first_label q ≡ l) (table_at level ps)
labelled level l [] h = tt
labelled level l (p ∷ ps) h = (first-at level p ∙ h 0 (omega arith), labelled level l ps (λ k lt. h (suc k) (omega arith)))

next-is : (level : ℕ) (l : List ℕ) (ps : List GrowthPath) → (0 < length ps → get_or (labels_at level ps) 0 [] ≢ l) → Next l (table_at level ps)
next-is level l [] h = tt
next-is level l (p ∷ ps) h = elim (cases_Bool (bytes_eq l (first_label (path_from level p)))) [
  | inl same ↦ absurd (h (omega arith) (sym (same_bytes l (first_label (path_from level p)) same ∙ first-at level p)))
  | inr other ↦ other
]

behind-first : (level : ℕ) (ps : List GrowthPath) → map (path_from 1) (table_at level ps) ≡ table_at (level + 1) ps
behind-first level [] = refl
behind-first level (p ∷ ps) =
    let one : List (List ℕ) → GrowthPath = λ path. record { path = path; sizes = p.sizes } in
    ap (λ q. q ∷ map (path_from 1) (table_at level ps)) (ap one (drop-drop 1 level p.path)) ∙ ap (λ qs. path_from (level + 1) p ∷ qs) (behind-first level ps)

-- The labels of a part.
part-label : (level : ℕ) (paths : List GrowthPath) (from n k : ℕ) → k < n → get_or (labels_at level (take n (drop from paths))) k [] ≡ get_or (labels_at level paths) (from + k) []
part-label level paths from n k lt =
    let f : GrowthPath → List ℕ = λ p. get_or p.path level [] in
    ap (λ xs. get_or xs k []) (sym (take-map f n (drop from paths)) ∙ ap (take n) (sym (drop-map f from paths)))
    ∙ (get_or-take n (drop from (labels_at level paths)) k [] lt ∙ get_or-drop from (labels_at level paths) k [])

rest-label : (level : ℕ) (paths : List GrowthPath) (from k : ℕ) → get_or (labels_at level (drop from paths)) k [] ≡ get_or (labels_at level paths) (from + k) []
rest-label level paths from k =
    let f : GrowthPath → List ℕ = λ p. get_or p.path level [] in
    ap (λ xs. get_or xs k []) (sym (drop-map f from paths)) ∙ get_or-drop from (labels_at level paths) k []

-- What is found at the front of the paths from an index on is a run.
pub run-is : (level : ℕ) (paths : List GrowthPath) (from n : ℕ) → 0 < n
    → ((k : ℕ) → k < n → get_or (labels_at level (take (length paths - from) (drop from paths))) k [] ≡ get_or (labels_at level (take (length paths - from) (drop from paths))) 0 [])
    → (n < length (take (length paths - from) (drop from paths))
    → get_or (labels_at level (take (length paths - from) (drop from paths))) n [] ≢ get_or (labels_at level (take (length paths - from) (drop from paths))) 0 [])
    → IsRun level paths from (from + n)
run-is level paths from n some same next =
    let rest = take (length paths - from) (drop from paths) in
    let e : rest ≡ drop from paths = take_rest paths from in
    let at : (k : ℕ) → get_or (labels_at level rest) k [] ≡ get_or (labels_at level paths) (from + k) [] = λ k. ap (λ xs. get_or (labels_at level xs) k []) e ∙ rest-label level paths from k in
    let z : from + 0 ≡ from = omega arith in
    let first : get_or (labels_at level rest) 0 [] ≡ get_or (labels_at level paths) from [] = at 0 ∙ ap (λ k. get_or (labels_at level paths) k []) z in
    record {
      same = λ k low high.
          let s : from + (k - from) ≡ k = omega arith in
          ap (λ j. get_or (labels_at level paths) j []) (sym s) ∙ (sym (at (k - from)) ∙ (same (k - from) (omega arith) ∙ first));
      next = λ lt h. next (omega (arith, ap (λ (xs : List GrowthPath). length xs) e, length-drop from paths)) (at n ∙ (h ∙ sym first));
    }

-- The runs of the paths from an index on begin with the run there.
pub run-front : (level : ℕ) (paths : List GrowthPath) (from to : ℕ) → from < to → to ≤ length paths → IsRun level paths from to
    → runs (table_at level (drop from paths)) ≡ record { label = get_or (labels_at level paths) from []; below = table_at (level + 1) (mid from to paths) } ∷ runs (table_at level (drop to paths))
run-front level paths from to lt le run =
    let n = to - from in
    let xs = drop from paths in
    let l = get_or (labels_at level paths) from [] in
    let long : length (take n xs) ≡ n = length-take-le n xs (omega (arith, length-drop from paths)) in
    let end : from + n ≡ to = omega arith in
    let parts : table_at level xs ≡ table_at level (take n xs) ++ table_at level (drop n xs) = ap (table_at level) (sym (take-append-drop n xs)) ∙ map-append (path_from level) (take n xs) (drop n xs) in
    let behind : drop n xs ≡ drop to paths = drop-drop n from paths ∙ ap (λ k. drop k paths) end in
    let all : (k : ℕ) → k < length (take n xs) → get_or (labels_at level (take n xs)) k [] ≡ l = λ k less.
    part-label level paths from n k (omega (arith, long)) ∙ run.same (from + k) (omega arith) (omega (arith, long)) in
    let other : 0 < length (drop to paths) → get_or (labels_at level (drop to paths)) 0 [] ≢ l = λ some h.
    let z : to + 0 ≡ to = omega arith in
    run.next (omega (arith, length-drop to paths)) (ap (λ k. get_or (labels_at level paths) k []) (sym z) ∙ (sym (rest-label level paths to 0) ∙ h)) in
    ap runs (parts ∙ ap (λ ys. table_at level (take n xs) ++ table_at level ys) behind)
    ∙ (front-of l (table_at level (take n xs)) (table_at level (drop to paths)) (omega (arith, length-map (take n xs) (path_from level), long)) (labelled level l (take n xs) all) (next-is level l (drop to paths) other)
    ∙ ap (λ (below : List GrowthPath). record { label = l; below = below } ∷ runs (table_at level (drop to paths))) (behind-first level (take n xs)))

-- Past the last path there are no runs.
pub runs-end : (level : ℕ) (paths : List GrowthPath) (from : ℕ) → length paths ≤ from → runs (table_at level (drop from paths)) ≡ []
unfolding runs
runs-end level paths from le = rw (drop_all from paths le) refl
