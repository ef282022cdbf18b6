-- More levels leave the first level as it is.
use Rattle.std.proofs.Common.{◌≡◌, ℕ, zero, suc, ◌+◌, ◌<◌, ◌==◌, List, [], ◌∷◌, ◌++◌, length, map, refl, sym, ap, ◌∙◌, subst, Bool, true, false, arith}
use Rattle.std.specs.Prelude.{All, filter}
use Rattle.std.proofs.lemmas.Bool.Decides.{nat_tests}
use Rattle.std.proofs.lemmas.List.Elements.{All-head, All-tail, filter-append}
use mathlib.Core.Path.{fun_ext}
use Rattle.report_rows.specs.declared.row.RowKind.{RowKind}
use Rattle.report_rows.specs.declared.row.RowKind.TheVariants.{Label, Others}
use Rattle.report_rows.specs.declared.row.Row.{Row}
use Rattle.report_rows.specs.declared.row.RowOptions.{RowOptions}
use Rattle.report_rows.specs.Ordered.{AreRows, InReportOrder, Report, label_rows, others_rows}
use Rattle.report_rows.specs.Paths.{Path}
use Rattle.report_rows.specs.SizeTrees.{FirstLevelStays, Sizes, both_sizes, first_level, size_report}
use Rattle.report_rows.proofs.CutLemmas.{All-back, All-front, same-level}
use Rattle.report_rows.proofs.SizeOrderLemmas.{same-sizes}

module _ {S R : Type 0} (r : Report S R) (top : R → Bool) (at-top : (kind : RowKind) (s : S) → top (r.row 0 kind s) ≡ true) (at-deep : (level : ℕ) (kind : RowKind) (s : S) → 0 < level → top (r.row level kind s) ≡ false) where
  -- Rows under a label of the first level are none of it.
  abbrev Low : (List ℕ → List R) → List ℕ → Type 0
  Low under l = filter top (under l) ≡ []

  deep-labels : (level : ℕ) (sizes : List ℕ → S) (under : List ℕ → List R) (ls : List (List ℕ)) → 0 < level → All (Low under) ls → filter top (label_rows (λ l. r.row level (Label l) (sizes l)) under ls) ≡ []
  deep-labels level sizes under [] lt below = refl
  deep-labels level sizes under (l ∷ ls) lt below =
      let rest = label_rows (λ l. r.row level (Label l) (sizes l)) under ls in
      rw (at-deep level (Label l) (sizes l) lt)
      (filter-append top (under l) rest ∙ (ap (λ xs. xs ++ filter top rest) (All-head (Low under) l ls below) ∙ deep-labels level sizes under ls lt (All-tail (Low under) l ls below)))

  top-labels : (sizes : List ℕ → S) (under : List ℕ → List R) (ls : List (List ℕ)) → All (Low under) ls
      → filter top (label_rows (λ l. r.row 0 (Label l) (sizes l)) under ls) ≡ label_rows (λ l. r.row 0 (Label l) (sizes l)) (λ l. []) ls
  top-labels sizes under [] below = refl
  top-labels sizes under (l ∷ ls) below =
      let rest = label_rows (λ l. r.row 0 (Label l) (sizes l)) under ls in
      rw (at-top (Label l) (sizes l))
      (ap (λ xs. r.row 0 (Label l) (sizes l) ∷ xs)
      (filter-append top (under l) rest ∙ (ap (λ xs. xs ++ filter top rest) (All-head (Low under) l ls below) ∙ top-labels sizes under ls (All-tail (Low under) l ls below))))

  deep-others : (level : ℕ) (ss : List S) → 0 < level → filter top (others_rows r level ss) ≡ []
  deep-others level [] lt = refl
  deep-others level (s ∷ ss) lt = rw (at-deep level (Others (length (s ∷ ss))) (r.sums (s ∷ ss)) lt) refl

  top-others : (ss : List S) → filter top (others_rows r 0 ss) ≡ others_rows r 0 ss
  top-others [] = refl
  top-others (s ∷ ss) = rw (at-top (Others (length (s ∷ ss))) (r.sums (s ∷ ss))) refl

  parts : (first others last : List R) → filter top (first ++ (others ++ last)) ≡ filter top first ++ (filter top others ++ filter top last)
  parts first others last = filter-append top first (others ++ last) ∙ ap (λ xs. filter top first ++ xs) (filter-append top others last)

  deeper : (levels level : ℕ) (sizes : Path → S) (rows : List R) → 0 < level → InReportOrder r levels level sizes rows → filter top rows ≡ []
  deeper zero level sizes rows lt is = ap (filter top) is
  deeper (suc levels) level sizes rows lt is =
      let own : List ℕ → S = λ l. sizes (l ∷ []) in
      let row : List ℕ → R = λ l. r.row level (Label l) (own l) in
      let low : All (Low is.under) (is.above ++ is.rest) = (λ k d in'. deeper levels (level + 1) _ _ (omega arith) (is.below k d in')) in
      ap (filter top) is.are
      ∙ (parts (label_rows row is.under is.above) (others_rows r level (map own is.left)) (label_rows row is.under is.rest)
      ∙ rw (deep-labels level own is.under is.above lt (All-front (Low is.under) is.above is.rest low), deep-others level (map own is.left) lt, deep-labels level own is.under is.rest lt (All-back (Low is.under) is.above is.rest low)) refl)

  first-rows : (sizes : List ℕ → S) (Under : List ℕ → List R → Type 0) (rows : List R) → ((l : List ℕ) (under : List R) → Under l under → filter top under ≡ []) → AreRows r 0 sizes Under rows
      → AreRows r 0 sizes (λ l under. under ≡ []) (filter top rows)
  first-rows sizes Under rows none is =
      let row : List ℕ → R = λ l. r.row 0 (Label l) (sizes l) in
      let low : All (Low is.under) (is.above ++ is.rest) = (λ k d lt. none _ _ (is.below k d lt)) in
      record {
        above = is.above;
        rest = is.rest;
        left = is.left;
        cut = is.cut;
        higher = is.higher;
        lower = is.lower;
        under = λ l. [];
        below = λ k d lt. refl;
        are = ap (filter top) is.are
            ∙ (parts (label_rows row is.under is.above) (others_rows r 0 (map sizes is.left)) (label_rows row is.under is.rest)
            ∙ rw (top-labels sizes is.under is.above (All-front (Low is.under) is.above is.rest low), top-others (map sizes is.left), top-labels sizes is.under is.rest (All-back (Low is.under) is.above is.rest low)) refl);
      }

not-first : (level : ℕ) → 0 < level → (level == 0) ≡ false
not-first level lt = grind (arith, nat_tests)

first-of : (o : RowOptions) (depth : ℕ) (sizes : Path → Sizes) (rows : List Row) → 0 < depth → InReportOrder (size_report o) depth 0 sizes rows
    → AreRows (size_report o) 0 (λ l. sizes (l ∷ [])) (λ l under. under ≡ []) (first_level rows)
first-of o zero sizes rows some is = absurd (omega arith)
first-of o (suc depth) sizes rows some is =
    let r = size_report o in
    let top : Row → Bool = λ (w : Row). w.level == 0 in
    let deep : (level : ℕ) (kind : RowKind) (s : Sizes) → 0 < level → top (r.row level kind s) ≡ false = (λ level kind s lt. not-first level lt) in
    first-rows r top (λ kind s. refl) deep (λ l. sizes (l ∷ [])) (λ l under. InReportOrder r depth 1 (λ path. sizes (l ∷ path)) under) rows
    (λ l under below. deeper r top (λ kind s. refl) deep depth 1 (λ path. sizes (l ∷ path)) under (omega arith) below) is

pub first-stays : FirstLevelStays
first-stays o depth vm file vm2 file2 a b some vm-is file-is one more =
    let own : List ℕ → Sizes = λ l. both_sizes vm file (l ∷ []) in
    let own2 : List ℕ → Sizes = λ l. both_sizes vm2 file2 (l ∷ []) in
    let None : List ℕ → List Row → Type 0 = λ l under. under ≡ [] in
    let same : own2 ≡ own = fun_ext (λ l. same-sizes (vm2 (l ∷ [])) (vm (l ∷ [])) (file2 (l ∷ [])) (file (l ∷ [])) (sym (vm-is l)) (sym (file-is l))) in
    let first : AreRows (size_report o) 0 own None (first_level b.rows) = subst (λ (s : List ℕ → Sizes). AreRows (size_report o) 0 s None (first_level b.rows)) same (first-of o depth (both_sizes vm2 file2) b.rows some more.rows) in
    same-level (size_report o) 0 own None (λ l x y p q. p ∙ sym q) a.rows (first_level b.rows) one.rows first
