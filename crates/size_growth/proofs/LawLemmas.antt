-- If paths are sorted, each label that they begin with comes once.
use Rattle.std.proofs.Common.{◌≡◌, ℕ, ◌+◌, ◌<◌, List, [], ◌∷◌, length, drop, refl, sym, ap, ◌∙◌, subst, Bool, true, false, cond, arith}
use Rattle.std.specs.Prelude.{All}
use Rattle.std.specs.List.{sum_by, AllByRecursion}
use Rattle.std.specs.List.Sorted.{IsStrictlySortedBy}
use Rattle.std.specs.Str.{bytes_eq}
use Rattle.std.specs.Cmp.Lexicographic.{slice_cmp, nat_list_cmp_total}
use Rattle.std.specs.Ordering.{nat_cmp, ordering_then}
use Rattle.std.specs.declared.cmp.Ordering.{Ordering}
use Rattle.std.specs.declared.cmp.Ordering.TheVariants.{Less, Equal, Greater}
use Rattle.std.proofs.lemmas.List.Elements.{All-from_recursion, recursion_from_All}
use Rattle.std.proofs.lemmas.List.Sums.{sum_by-cons}
use Rattle.path_rows.specs.Paths.{path_cmp}
use Rattle.report_rows.proofs.AscendLemmas.{bytes-equal}
use Rattle.report_rows.proofs.EntryLemmas.{past}
use Rattle.report_rows.proofs.TableLemmas.{same_bytes, bytes_eq-same}
use Rattle.size_growth.specs.declared.growth.GrowthPath.{GrowthPath}
use Rattle.size_growth.specs.declared.growth.GrowthSizes.{GrowthSizes}
use Rattle.size_growth.specs.Laws.{AreLabels, labels_of, size_from, size_under}
use Rattle.size_growth.specs.Paths.{growth_cmp}
use Rattle.size_growth.specs.Runs.{Under, first_label, joined, path_from, runs}

abbrev label_cmp : List ℕ → List ℕ → Ordering
label_cmp a b = slice_cmp nat_cmp a b

-- The sizes under a label.
module _ (size : GrowthSizes → ℕ) (label : List ℕ) where
  abbrev of-path : GrowthPath → ℕ
  of-path p = size p.sizes

  abbrev of-label : Under → ℕ
  of-label u = cond (bytes_eq u.label label) (sum_by of-path u.below) 0

  either : (b : Bool) (m n : ℕ) → cond b (m + n) 0 ≡ cond b m 0 + cond b n 0
  either true m n = refl
  either false m n = refl

  alone-size : (p : GrowthPath) → of-label (record { label = first_label p; below = path_from 1 p ∷ [] }) ≡ cond (bytes_eq (first_label p) label) (of-path p) 0
  alone-size p =
      let e : sum_by of-path (path_from 1 p ∷ []) ≡ of-path p = omega (arith, sum_by-cons of-path (path_from 1 p) []) in
      ap (λ n. cond (bytes_eq (first_label p) label) n 0) e

  joined-size : (p : GrowthPath) (us : List Under) → sum_by of-label (joined p us) ≡ cond (bytes_eq (first_label p) label) (of-path p) 0 + sum_by of-label us
  joined-size p [] = omega (arith, sum_by-cons of-label (record { label = first_label p; below = path_from 1 p ∷ [] }) [], alone-size p)
  joined-size p (u ∷ us) = at (bytes_eq (first_label p) u.label) refl
    where
      at : (b : Bool) → bytes_eq (first_label p) u.label ≡ b
          → sum_by of-label (cond b (record { label = first_label p; below = path_from 1 p ∷ u.below } ∷ us) (record { label = first_label p; below = path_from 1 p ∷ [] } ∷ u ∷ us))
          ≡ cond (bytes_eq (first_label p) label) (of-path p) 0 + sum_by of-label (u ∷ us)
      at true e =
          let b = bytes_eq (first_label p) label in
          let same : cond b (sum_by of-path u.below) 0 ≡ of-label u = ap (λ l. cond (bytes_eq l label) (sum_by of-path u.below) 0) (same_bytes (first_label p) u.label e) in
          omega (
            arith,
            sum_by-cons of-label (record { label = first_label p; below = path_from 1 p ∷ u.below }) us,
            ap (λ n. cond b n 0) (sum_by-cons of-path (path_from 1 p) u.below),
            either b (of-path p) (sum_by of-path u.below),
            same,
            sum_by-cons of-label u us,
          )
      at false e = omega (arith, sum_by-cons of-label (record { label = first_label p; below = path_from 1 p ∷ [] }) (u ∷ us), alone-size p)

  pub runs-size : (paths : List GrowthPath) → size_under size label (runs paths) ≡ size_from size label paths
  unfolding runs
  runs-size [] = refl
  runs-size (p ∷ paths) = omega (arith, joined-size p (runs paths), runs-size paths, sum_by-cons (λ (q : GrowthPath). cond (bytes_eq (first_label q) label) (of-path q) 0) p paths)

-- A path below all that are under a label.
abbrev Before : GrowthPath → Under → Type 0
Before p u = AllByRecursion (λ (q : GrowthPath). path_cmp p.path (u.label ∷ q.path) ≡ Less) u.below

-- The first label of a path and the rest.
pub parts : (p : GrowthPath) (path : List (List ℕ)) → p.path ≡ path → 0 < length path → p.path ≡ first_label p ∷ drop 1 p.path
parts p [] e lt = absurd (omega arith)
parts p (l ∷ path) e lt = rw e refl

before-at : (p q : GrowthPath) (u : Under) (us : List Under) (b : Bool) → bytes_eq (first_label q) u.label ≡ b → path_cmp p.path (first_label q ∷ drop 1 q.path) ≡ Less → AllByRecursion (Before p) (u ∷ us)
    → AllByRecursion (Before p) (cond b (record { label = first_label q; below = path_from 1 q ∷ u.below } ∷ us) (record { label = first_label q; below = path_from 1 q ∷ [] } ∷ u ∷ us))
before-at p q u us true e here h =
    let B : List ℕ → Type 0 = λ l. AllByRecursion (λ (r : GrowthPath). path_cmp p.path (l ∷ r.path) ≡ Less) u.below in
    ((here, subst B (sym (same_bytes (first_label q) u.label e)) h.0), h.1)
before-at p q u us false e here h = ((here, tt), h)

before-joined : (p q : GrowthPath) (us : List Under) → path_cmp p.path (first_label q ∷ drop 1 q.path) ≡ Less → AllByRecursion (Before p) us → AllByRecursion (Before p) (joined q us)
before-joined p q [] here h = ((here, tt), tt)
before-joined p q (u ∷ us) here h = before-at p q u us (bytes_eq (first_label q) u.label) refl here h

before-runs : (p : GrowthPath) (paths : List GrowthPath) → AllByRecursion (λ (q : GrowthPath). 0 < length q.path) paths → AllByRecursion (λ (q : GrowthPath). growth_cmp p q ≡ Less) paths
    → AllByRecursion (Before p) (runs paths)
unfolding runs
before-runs p [] some less = tt
before-runs p (q ∷ paths) some less =
    let P : List (List ℕ) → Type 0 = λ path. path_cmp p.path path ≡ Less in
    before-joined p q (runs paths) (subst P (parts q q.path refl some.0) less.0) (before-runs p paths some.1 less.1)

-- Paths that begin with different labels are ordered by them.
by-label : (l k : List ℕ) (p q : List (List ℕ)) → bytes_eq l k ≡ false → path_cmp (l ∷ p) (k ∷ q) ≡ Less → label_cmp l k ≡ Less
by-label l k p q other less = at (label_cmp l k) refl less
  where
    at : (o : Ordering) → label_cmp l k ≡ o → ordering_then o (path_cmp p q) ≡ Less → o ≡ Less
    at Less e h = refl
    at Equal e h =
        let same : bytes_eq l k ≡ true = ap (bytes_eq l) (sym (bytes-equal l k e)) ∙ bytes_eq-same l in
        cc (same, other)
    at Greater e h = cc h

abbrev Once : List Under → Type 0
Once us = IsStrictlySortedBy (λ (a b : List ℕ). slice_cmp nat_cmp a b) (labels_of us)

later-labels : (l k : List ℕ) (ls : List (List ℕ)) → label_cmp l k ≡ Less → AllByRecursion (λ m. slice_cmp nat_cmp k m ≡ Less) ls → AllByRecursion (λ m. slice_cmp nat_cmp l m ≡ Less) ls
later-labels l k [] lt h = tt
later-labels l k (m ∷ ls) lt h = (nat_list_cmp_total.trans l k m lt h.0, later-labels l k ls lt h.1)

behind : (p : GrowthPath) (l : List ℕ) (ps : List GrowthPath) → first_label p ≡ l → p.path ≡ first_label p ∷ drop 1 p.path → AllByRecursion (λ (q : GrowthPath). path_cmp p.path (l ∷ q.path) ≡ Less) ps
    → AllByRecursion (λ (q : GrowthPath). growth_cmp (path_from 1 p) q ≡ Less) ps
behind p l [] e is h = tt
behind p l (q ∷ ps) e is h =
    let whole : path_cmp (l ∷ drop 1 p.path) (l ∷ q.path) ≡ Less = subst (λ path. path_cmp path (l ∷ q.path) ≡ Less) (is ∙ ap (λ k. k ∷ drop 1 p.path) e) h.0 in
    (sym (past l (drop 1 p.path) q.path) ∙ whole, behind p l ps e is h.1)

-- A label has at least one path, and its paths are sorted.
abbrev Rises : Under → Type 0
Rises u = (0 < length u.below) × IsStrictlySortedBy growth_cmp u.below

abbrev Sorted : List Under → Type 0
Sorted us = Once us × AllByRecursion Rises us

first-less : (l k : List ℕ) (p : List (List ℕ)) (ps : List GrowthPath) → bytes_eq l k ≡ false → 0 < length ps → AllByRecursion (λ (q : GrowthPath). path_cmp (l ∷ p) (k ∷ q.path) ≡ Less) ps → label_cmp l k ≡ Less
first-less l k p [] other some h = absurd (omega arith)
first-less l k p (q ∷ ps) other some h = by-label l k p q.path other h.0

sorted-at : (p : GrowthPath) (u : Under) (us : List Under) (b : Bool) → bytes_eq (first_label p) u.label ≡ b → p.path ≡ first_label p ∷ drop 1 p.path → AllByRecursion (Before p) (u ∷ us) → Sorted (u ∷ us)
    → Sorted (cond b (record { label = first_label p; below = path_from 1 p ∷ u.below } ∷ us) (record { label = first_label p; below = path_from 1 p ∷ [] } ∷ u ∷ us))
unfolding IsStrictlySortedBy
sorted-at p u us true e is before sorted =
    let same = same_bytes (first_label p) u.label e in
    let L : List ℕ → Type 0 = λ l. AllByRecursion (λ m. slice_cmp nat_cmp l m ≡ Less) (labels_of us) in
    ((subst L (sym same) sorted.0.0, sorted.0.1), ((omega arith, (behind p u.label u.below same is before.0, sorted.1.0.1)), sorted.1.1))
sorted-at p u us false e is before sorted =
    let B : List (List ℕ) → Type 0 = λ path. AllByRecursion (λ (q : GrowthPath). path_cmp path (u.label ∷ q.path) ≡ Less) u.below in
    let less : label_cmp (first_label p) u.label ≡ Less = first-less (first_label p) u.label (drop 1 p.path) u.below e sorted.1.0.0 (subst B is before.0) in
    (((less, later-labels (first_label p) u.label (labels_of us) less sorted.0.0), sorted.0), ((omega arith, (tt, tt)), sorted.1))

sorted-joined : (p : GrowthPath) (us : List Under) → p.path ≡ first_label p ∷ drop 1 p.path → AllByRecursion (Before p) us → Sorted us → Sorted (joined p us)
unfolding IsStrictlySortedBy
sorted-joined p [] is before sorted = ((tt, tt), ((omega arith, (tt, tt)), tt))
sorted-joined p (u ∷ us) is before sorted = sorted-at p u us (bytes_eq (first_label p) u.label) refl is before sorted

sorted-runs : (paths : List GrowthPath) → IsStrictlySortedBy growth_cmp paths → AllByRecursion (λ (q : GrowthPath). 0 < length q.path) paths → Sorted (runs paths)
unfolding runs IsStrictlySortedBy
sorted-runs [] ordered some = (tt, tt)
sorted-runs (p ∷ paths) ordered some =
    sorted-joined p (runs paths) (parts p p.path refl some.0) (before-runs p paths some.1 ordered.0) (sorted-runs paths ordered.1 some.1)

only-sorted : (us : List Under) → AllByRecursion Rises us → AllByRecursion (λ (u : Under). IsStrictlySortedBy growth_cmp u.below) us
only-sorted [] h = tt
only-sorted (u ∷ us) h = (h.0.1, only-sorted us h.1)

pub are-labels : (paths : List GrowthPath) → IsStrictlySortedBy growth_cmp paths → All (λ (p : GrowthPath). 0 < length p.path) paths → AreLabels paths
are-labels paths ordered some =
    let sorted = sorted-runs paths ordered (recursion_from_All (λ (p : GrowthPath). 0 < length p.path) paths some) in
    record {
      once = sorted.0;
      sizes = λ size label. runs-size size label paths;
      below = All-from_recursion (λ (u : Under). IsStrictlySortedBy growth_cmp u.below) (runs paths) (only-sorted (runs paths) sorted.1);
    }
