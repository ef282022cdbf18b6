-- The paths under a label, and the runs of sorted paths.
use Rattle.std.proofs.Common.{◌≡◌, ℕ, suc, ◌+◌, ◌<◌, List, [], ◌∷◌, ◌++◌, length, drop, get_or, refl, sym, ap, ◌∙◌, subst, Bool, true, false, cond, ◌&&◌, ◌||◌, arith}
use Rattle.std.specs.Prelude.{All}
use Rattle.std.specs.declared.cmp.Ordering.TheVariants.{Less}
use Rattle.std.specs.Cmp.Lexicographic.{slice_cmp, nat_list_cmp_total}
use Rattle.std.specs.List.{sum_by, starts_with, AllByRecursion}
use Rattle.std.specs.List.Sorted.{IsStrictlySortedBy}
use Rattle.std.specs.Ordering.{nat_cmp}
use Rattle.std.specs.Str.{bytes_eq}
use Rattle.std.proofs.lemmas.Cmp.{tied_itself}
use Rattle.std.proofs.lemmas.List.Elements.{All-cons}
use Rattle.std.proofs.lemmas.List.Sums.{sum_by-cons, sum_by-append}
use Rattle.path_rows.specs.Paths.{path_cmp}
use Rattle.report_rows.specs.Paths.{Path, times}
use Rattle.report_rows.proofs.CutLemmas.{hit, times-cons}
use Rattle.report_rows.proofs.EntryLemmas.{past}
use Rattle.report_rows.proofs.TableLemmas.{bytes_eq-same, has, same_bytes, sum_by-same}
use Rattle.size_growth.specs.declared.growth.GrowthPath.{GrowthPath}
use Rattle.size_growth.specs.declared.growth.GrowthSizes.{GrowthSizes}
use Rattle.size_growth.specs.GrowthTrees.{size_of}
use Rattle.size_growth.specs.Laws.{labels_of}
use Rattle.size_growth.specs.Paths.{growth_cmp}
use Rattle.size_growth.specs.Runs.{Under, first_label, joined, path_from, runs}
use Rattle.size_growth.proofs.LawLemmas.{are-labels}

-- The path without the label that it begins with. None if it begins otherwise.
abbrev without : List ℕ → GrowthPath → Path → List GrowthPath
without label p [] = []
without label p (k ∷ path) = cond (bytes_eq label k) (record p { path = path } ∷ []) []

-- The paths that begin with a label, without it.
unfoldable pub under : List ℕ → List GrowthPath → List GrowthPath
under label [] = []
under label (p ∷ paths) = without label p p.path ++ under label paths

-- The paths that begin with a path, without it.
abbrev pub under_path : Path → List GrowthPath → List GrowthPath
under_path [] paths = paths
under_path (label ∷ path) paths = under_path path (under label paths)

-- The sizes of the paths under a path are those of the path.
module _ (size : GrowthSizes → ℕ) where
  under-sum : (f : GrowthPath → ℕ) (label : List ℕ) (paths : List GrowthPath) → sum_by f (under label paths) ≡ sum_by (λ (p : GrowthPath). sum_by f (without label p p.path)) paths
  unfolding under
  under-sum f label [] = refl
  under-sum f label (p ∷ paths) =
      omega (arith, sum_by-append f (without label p p.path) (under label paths), under-sum f label paths, sum_by-cons (λ (q : GrowthPath). sum_by f (without label q q.path)) p paths)

  prefix-at : (p : GrowthPath) (path rest : Path) (b : Bool) → sum_by (λ (q : GrowthPath). cond (starts_with bytes_eq q.path path) (size q.sizes) 0) (cond b (record p { path = rest } ∷ []) [])
      ≡ cond (b && starts_with bytes_eq rest path) (size p.sizes) 0
  prefix-at p path rest true = omega (arith, sum_by-cons (λ (q : GrowthPath). cond (starts_with bytes_eq q.path path) (size q.sizes) 0) (record p { path = rest }) [])
  prefix-at p path rest false = refl

  prefix-step : (p : GrowthPath) (label : List ℕ) (path own : Path)
      → sum_by (λ (q : GrowthPath). cond (starts_with bytes_eq q.path path) (size q.sizes) 0) (without label p own) ≡ cond (starts_with bytes_eq own (label ∷ path)) (size p.sizes) 0
  prefix-step p label path [] = refl
  prefix-step p label path (k ∷ own) = prefix-at p path own (bytes_eq label k)

  pub prefix-sum : (path : Path) (paths : List GrowthPath) → sum_by (λ (p : GrowthPath). size p.sizes) (under_path path paths) ≡ size_of size paths path
  prefix-sum [] paths = refl
  prefix-sum (label ∷ path) paths =
      let f : GrowthPath → ℕ = λ q. cond (starts_with bytes_eq q.path path) (size q.sizes) 0 in
      prefix-sum path (under label paths)
      ∙ (under-sum f label paths
      ∙ sum_by-same (λ (p : GrowthPath). sum_by f (without label p p.path)) (λ (p : GrowthPath). cond (starts_with bytes_eq p.path (label ∷ path)) (size p.sizes) 0) paths (λ p. prefix-step p label path p.path))

-- Each path has this many labels.
abbrev pub Deep : ℕ → List GrowthPath → Type 0
Deep n paths = AllByRecursion (λ (p : GrowthPath). length p.path ≡ n) paths

-- Under a label they have one less, and are sorted, if all are.
deep-path : (n : ℕ) (label : List ℕ) (p : GrowthPath) (own : Path) (rest : List GrowthPath) → length own ≡ suc n → Deep n rest → Deep n (without label p own ++ rest)
deep-path n label p [] rest e more = more
deep-path n label p (k ∷ own) rest e more = at (bytes_eq label k)
  where
    at : (b : Bool) → Deep n (cond b (record p { path = own } ∷ []) [] ++ rest)
    at true = (omega (arith, e), more)
    at false = more

pub under-deep : (n : ℕ) (label : List ℕ) (paths : List GrowthPath) → Deep (suc n) paths → Deep n (under label paths)
unfolding under
under-deep n label [] deep = tt
under-deep n label (p ∷ paths) deep = deep-path n label p p.path (under label paths) deep.0 (under-deep n label paths deep.1)

less-past : (l k j : List ℕ) (p q : Path) → l ≡ k → l ≡ j → path_cmp (k ∷ p) (j ∷ q) ≡ Less → path_cmp p q ≡ Less
less-past l k j p q a b h = let e : k ≡ j = sym a ∙ b in sym (past k p q) ∙ (ap (λ m. path_cmp (k ∷ p) (m ∷ q)) e ∙ h)

one-less : (l k : List ℕ) (p s : GrowthPath) (own q : Path) (rest : List GrowthPath) → l ≡ k → path_cmp (k ∷ own) q ≡ Less
    → AllByRecursion (λ (y : GrowthPath). path_cmp own y.path ≡ Less) rest → AllByRecursion (λ (y : GrowthPath). path_cmp own y.path ≡ Less) (without l s q ++ rest)
one-less l k p s own [] rest e h more = more
one-less l k p s own (j ∷ q) rest e h more = at (bytes_eq l j) refl
  where
    at : (b : Bool) → bytes_eq l j ≡ b → AllByRecursion (λ (y : GrowthPath). path_cmp own y.path ≡ Less) (cond b (record s { path = q } ∷ []) [] ++ rest)
    at true same = (less-past l k j own q e (same_bytes l j same) h, more)
    at false same = more

under-less : (l k : List ℕ) (p : GrowthPath) (own : Path) (paths : List GrowthPath) → l ≡ k → p.path ≡ k ∷ own → AllByRecursion (λ (y : GrowthPath). growth_cmp p y ≡ Less) paths
    → AllByRecursion (λ (y : GrowthPath). path_cmp own y.path ≡ Less) (under l paths)
unfolding under
under-less l k p own [] e is h = tt
under-less l k p own (s ∷ paths) e is h =
    one-less l k p s own s.path (under l paths) e (let Q : Path → Type 0 = λ z. path_cmp z s.path ≡ Less in subst Q is h.0) (under-less l k p own paths e is h.1)

sorted-at : (l k : List ℕ) (p : GrowthPath) (own : Path) (paths : List GrowthPath) (b : Bool) → p.path ≡ k ∷ own → bytes_eq l k ≡ b → AllByRecursion (λ (y : GrowthPath). growth_cmp p y ≡ Less) paths
    → IsStrictlySortedBy growth_cmp (under l paths) → IsStrictlySortedBy growth_cmp (cond b (record p { path = own } ∷ []) [] ++ under l paths)
unfolding IsStrictlySortedBy
sorted-at l k p own paths true is same first rest = (under-less l k p own paths (same_bytes l k same) is first, rest)
sorted-at l k p own paths false is same first rest = rest

sorted-path : (l : List ℕ) (p : GrowthPath) (paths : List GrowthPath) (own : Path) → p.path ≡ own → AllByRecursion (λ (y : GrowthPath). growth_cmp p y ≡ Less) paths
    → IsStrictlySortedBy growth_cmp (under l paths) → IsStrictlySortedBy growth_cmp (without l p own ++ under l paths)
sorted-path l p paths [] is first rest = rest
sorted-path l p paths (k ∷ own) is first rest = sorted-at l k p own paths (bytes_eq l k) is refl first rest

pub under-sorted : (l : List ℕ) (paths : List GrowthPath) → IsStrictlySortedBy growth_cmp paths → IsStrictlySortedBy growth_cmp (under l paths)
unfolding under IsStrictlySortedBy
under-sorted l [] sorted = tt
under-sorted l (p ∷ paths) sorted = sorted-path l p paths p.path refl sorted.0 (under-sorted l paths sorted.1)

-- The runs of sorted paths.

abbrev before : List ℕ → List ℕ → Type 0
before a b = slice_cmp nat_cmp a b ≡ Less

apart : (a b : List ℕ) → before a b → bytes_eq b a ≡ false
apart a b less = at (bytes_eq b a) refl
  where
    at : (c : Bool) → bytes_eq b a ≡ c → c ≡ false
    at true e =
        let same : slice_cmp nat_cmp a a ≡ Less = subst (λ l. slice_cmp nat_cmp a l ≡ Less) (same_bytes b a e) less in
        absurd (cc (same, tied_itself nat_list_cmp_total a))
    at false e = refl

all-apart : (a : List ℕ) (ls : List (List ℕ)) → AllByRecursion (λ l. before a l) ls → AllByRecursion (λ l. bytes_eq l a ≡ false) ls
all-apart a [] h = tt
all-apart a (l ∷ ls) h = (apart a l h.0, all-apart a ls h.1)

pub times-none : (label : List ℕ) (ls : List (List ℕ)) → AllByRecursion (λ l. bytes_eq l label ≡ false) ls → times label ls ≡ 0
times-none label [] h = refl
times-none label (l ∷ ls) h = omega (arith, times-cons label l ls false h.0, times-none label ls h.1)

-- Sorted labels are there once.
pub times-sorted : (label : List ℕ) (ls : List (List ℕ)) → IsStrictlySortedBy (λ (a b : List ℕ). slice_cmp nat_cmp a b) ls → times label ls ≡ cond (has ls label) 1 0
unfolding IsStrictlySortedBy
times-sorted label [] sorted = refl
times-sorted label (l ∷ ls) sorted = sum_by-cons (hit label) l ls ∙ at (bytes_eq l label) refl (times-sorted label ls sorted.1) (times-none l ls (all-apart l ls sorted.0))
  where
    at : (b : Bool) → bytes_eq l label ≡ b → times label ls ≡ cond (has ls label) 1 0 → times l ls ≡ 0 → cond b 1 0 + times label ls ≡ cond (b || has ls label) 1 0
    at true e more none = let same = same_bytes l label e in omega (arith, subst (λ m. times m ls ≡ 0) same none)
    at false e more none = omega (arith, more)

pub none-has : (label : List ℕ) (ls : List (List ℕ)) → has ls label ≡ false → AllByRecursion (λ l. bytes_eq l label ≡ false) ls
none-has label [] h = tt
none-has label (l ∷ ls) h = at (bytes_eq l label) refl h (none-has label ls)
  where
    at : (b : Bool) → bytes_eq l label ≡ b → (b || has ls label) ≡ false → (has ls label ≡ false → AllByRecursion (λ m. bytes_eq m label ≡ false) ls) → AllByRecursion (λ m. bytes_eq m label ≡ false) (l ∷ ls)
    at true e h more = absurd (cc h)
    at false e h more = (e, more h)

-- A path that begins with a label, and one that doesn't.
with-label : (label : List ℕ) (p : GrowthPath) (own : Path) (rest : List GrowthPath) → p.path ≡ own → 0 < length own → bytes_eq label (first_label p) ≡ true → without label p own ++ rest ≡ path_from 1 p ∷ rest
with-label label p [] rest is some e = absurd (omega arith)
with-label label p (k ∷ own) rest is some e =
    let first : first_label p ≡ k = ap (λ path. get_or path 0 []) is in
    let hits : bytes_eq label k ≡ true = subst (λ l. bytes_eq label l ≡ true) first e in
    let last : own ≡ drop 1 p.path = sym (ap (drop 1) is) in
    rw hits (ap (λ (path : Path). record p { path = path } ∷ rest) last)

without-label : (label : List ℕ) (p : GrowthPath) (own : Path) (rest : List GrowthPath) → p.path ≡ own → bytes_eq label (first_label p) ≡ false → without label p own ++ rest ≡ rest
without-label label p [] rest is e = refl
without-label label p (k ∷ own) rest is e =
    let first : first_label p ≡ k = ap (λ path. get_or path 0 []) is in
    let misses : bytes_eq label k ≡ false = subst (λ l. bytes_eq label l ≡ false) first e in
    rw misses refl

pub with-first : (label : List ℕ) (p : GrowthPath) (paths : List GrowthPath) → 0 < length p.path → bytes_eq label (first_label p) ≡ true → under label (p ∷ paths) ≡ path_from 1 p ∷ under label paths
unfolding under
with-first label p paths some e = with-label label p p.path (under label paths) refl some e

pub without-first : (label : List ℕ) (p : GrowthPath) (paths : List GrowthPath) → bytes_eq label (first_label p) ≡ false → under label (p ∷ paths) ≡ under label paths
unfolding under
without-first label p paths e = without-label label p p.path (under label paths) refl e

-- A label that no run has begins no path.
joined-none : (label : List ℕ) (p : GrowthPath) (us : List Under) → AllByRecursion (λ l. bytes_eq l label ≡ false) (labels_of (joined p us)) → (bytes_eq (first_label p) label ≡ false) × AllByRecursion (λ l. bytes_eq l label ≡ false) (labels_of us)
joined-none label p [] h = (h.0, tt)
joined-none label p (u ∷ us) h = at (bytes_eq (first_label p) u.label) refl h
  where
    at : (b : Bool) → bytes_eq (first_label p) u.label ≡ b
        → AllByRecursion (λ l. bytes_eq l label ≡ false) (labels_of (cond b (record { label = first_label p; below = path_from 1 p ∷ u.below } ∷ us) (record { label = first_label p; below = path_from 1 p ∷ [] } ∷ u ∷ us)))
        → (bytes_eq (first_label p) label ≡ false) × AllByRecursion (λ l. bytes_eq l label ≡ false) (labels_of (u ∷ us))
    at true e h = (h.0, (subst (λ l. bytes_eq l label ≡ false) (same_bytes (first_label p) u.label e) h.0, h.1))
    at false e h = (h.0, h.1)

back-false : (a b : List ℕ) → bytes_eq a b ≡ false → bytes_eq b a ≡ false
back-false a b e = at (bytes_eq b a) refl
  where
    at : (c : Bool) → bytes_eq b a ≡ c → c ≡ false
    at true h = absurd (let same : bytes_eq a b ≡ true = ap (bytes_eq a) (same_bytes b a h) ∙ bytes_eq-same a in cc (same, e))
    at false h = refl

pub absent : (label : List ℕ) (paths : List GrowthPath) → AllByRecursion (λ l. bytes_eq l label ≡ false) (labels_of (runs paths)) → under label paths ≡ []
unfolding runs under
absent label [] h = refl
absent label (p ∷ paths) h =
    let both = joined-none label p (runs paths) h in
    without-label label p p.path (under label paths) refl (back-false (first_label p) label both.0) ∙ absent label paths both.1

-- Each run has the paths under its label.
abbrev pub Below : List GrowthPath → Under → Type 0
Below paths u = u.below ≡ under u.label paths

later-below : (p : GrowthPath) (paths : List GrowthPath) (us : List Under) → AllByRecursion (λ l. before (first_label p) l) (labels_of us) → AllByRecursion (Below paths) us → AllByRecursion (Below (p ∷ paths)) us
later-below p paths [] after below = tt
later-below p paths (u ∷ us) after below = (below.0 ∙ sym (without-first u.label p paths (apart (first_label p) u.label after.0)), later-below p paths us after.1 below.1)

abbrev sorted-labels : List Under → Type 0
sorted-labels us = IsStrictlySortedBy (λ (a b : List ℕ). slice_cmp nat_cmp a b) (labels_of us)

below-at : (p : GrowthPath) (paths : List GrowthPath) (u : Under) (us : List Under) (b : Bool) → 0 < length p.path → bytes_eq (first_label p) u.label ≡ b
    → (AllByRecursion (λ l. bytes_eq l (first_label p) ≡ false) (labels_of (u ∷ us)) → under (first_label p) paths ≡ []) → AllByRecursion (Below paths) (u ∷ us)
    → sorted-labels (cond b (record { label = first_label p; below = path_from 1 p ∷ u.below } ∷ us) (record { label = first_label p; below = path_from 1 p ∷ [] } ∷ u ∷ us))
    → AllByRecursion (Below (p ∷ paths)) (cond b (record { label = first_label p; below = path_from 1 p ∷ u.below } ∷ us) (record { label = first_label p; below = path_from 1 p ∷ [] } ∷ u ∷ us))
unfolding IsStrictlySortedBy
below-at p paths u us true some e none below sorted =
    let l = first_label p in
    let own : u.below ≡ under l paths = below.0 ∙ ap (λ m. under m paths) (sym (same_bytes l u.label e)) in
    (ap (λ ps. path_from 1 p ∷ ps) own ∙ sym (with-first l p paths some (bytes_eq-same l)), later-below p paths us sorted.0 below.1)
below-at p paths u us false some e none below sorted =
    let l = first_label p in (
      ap (λ ps. path_from 1 p ∷ ps) (sym (none (all-apart l (labels_of (u ∷ us)) sorted.0))) ∙ sym (with-first l p paths some (bytes_eq-same l)),
      later-below p paths (u ∷ us) sorted.0 below,
    )

below-joined : (p : GrowthPath) (paths : List GrowthPath) (us : List Under) → 0 < length p.path → (AllByRecursion (λ l. bytes_eq l (first_label p) ≡ false) (labels_of us) → under (first_label p) paths ≡ [])
    → AllByRecursion (Below paths) us → sorted-labels (joined p us) → AllByRecursion (Below (p ∷ paths)) (joined p us)
below-joined p paths [] some none below sorted =
    let l = first_label p in
    (ap (λ ps. path_from 1 p ∷ ps) (sym (none tt)) ∙ sym (with-first l p paths some (bytes_eq-same l)), tt)
below-joined p paths (u ∷ us) some none below sorted = below-at p paths u us (bytes_eq (first_label p) u.label) some refl none below sorted

-- The labels of the runs are sorted.
pub runs-sorted : (n : ℕ) (paths : List GrowthPath) → IsStrictlySortedBy growth_cmp paths → Deep (suc n) paths → sorted-labels (runs paths)
runs-sorted n paths sorted deep = (are-labels paths sorted (some paths deep)).once
  where
    some : (ps : List GrowthPath) → Deep (suc n) ps → All (λ (p : GrowthPath). 0 < length p.path) ps
    some [] deep = λ k d lt. absurd (omega arith)
    some (p ∷ ps) deep = All-cons (λ (q : GrowthPath). 0 < length q.path) p ps (omega (arith, deep.0)) (some ps deep.1)

pub runs-below : (n : ℕ) (paths : List GrowthPath) → IsStrictlySortedBy growth_cmp paths → Deep (suc n) paths → AllByRecursion (Below paths) (runs paths)
unfolding runs IsStrictlySortedBy
runs-below n [] sorted deep = tt
runs-below n (p ∷ paths) sorted deep =
    below-joined p paths (runs paths) (omega (arith, deep.0)) (absent (first_label p) paths) (runs-below n paths sorted.1 deep.1) (runs-sorted n (p ∷ paths) sorted deep)
