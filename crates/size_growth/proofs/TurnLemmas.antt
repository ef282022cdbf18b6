-- Growth from the same sizes, and growth the other way.
use Rattle.std.proofs.Common.{◌≡◌, ℕ, zero, suc, ◌+◌, List, [], ◌∷◌, ◌++◌, length, get_or, map, refl, sym, ap, ◌∙◌, subst, Bool, false, cond, arith}
use Rattle.std.proofs.lemmas.List.{length-map, map-append}
use Rattle.std.proofs.lemmas.Simd.{map-map}
use mathlib.Core.Path.{fun_ext}
use Rattle.report_rows.specs.declared.row.RowKind.{RowKind}
use Rattle.report_rows.specs.declared.row.RowKind.TheVariants as kinds
use Rattle.report_rows.specs.declared.row.RowOptions.{RowOptions}
use Rattle.report_rows.specs.Ordered.{AreRows, InReportOrder, IsCut, Report, label_rows, others_rows}
use Rattle.report_rows.specs.Paths.{Path, times}
use Rattle.report_rows.specs.Shown.{shows_file, shows_vm}
use Rattle.report_rows.proofs.CutLemmas.{first-in}
use Rattle.report_rows.proofs.PathLemmas.{nothing-shown}
use Rattle.report_rows.proofs.TableLemmas.{sum_by-map}
use Rattle.size_growth.specs.declared.growth.GrowthSizes.{GrowthSizes}
use Rattle.size_growth.specs.GrowthTrees.{GrowthTurns, IsAlike, NoGrowthHasNoRows, growth_report, turned, turned_row}
use Rattle.size_growth.specs.Keys.{amount, growth_key, has_changed}
use Rattle.size_growth.specs.Sizes.{sums_by}
use Rattle.size_growth.proofs.SumLemmas.{same_sizes}

-- No rows.

no-labels : (labels : List (List ℕ)) → ((label : List ℕ) → times label labels ≡ 0) → labels ≡ []
no-labels [] none = refl
no-labels (l ∷ labels) none = absurd (omega (arith, none l, first-in l labels))

front-nil : {X : Type 0} (xs ys : List X) → xs ++ ys ≡ [] → xs ≡ []
front-nil [] ys e = refl
front-nil (x ∷ xs) ys e = absurd (cc e)

back-nil : {X : Type 0} (xs ys : List X) → xs ++ ys ≡ [] → ys ≡ []
back-nil [] ys e = e
back-nil (x ∷ xs) ys e = absurd (cc e)

no-rows : {S R : Type 0} (r : Report S R) (levels level : ℕ) (sizes : Path → S) (rows : List R) → ((label : List ℕ) → r.is_shown (sizes (label ∷ [])) ≡ false) → InReportOrder r levels level sizes rows → rows ≡ []
no-rows r zero level sizes rows none is = is
no-rows {S} {R} r (suc levels) level sizes rows none is =
    let all : (is.above ++ is.rest) ++ is.left ≡ [] = no-labels ((is.above ++ is.rest) ++ is.left) (λ label. is.cut.each label ∙ ap (λ b. cond b 1 0) (none label)) in
    let stay : is.above ++ is.rest ≡ [] = front-nil (is.above ++ is.rest) is.left all in
    let left : is.left ≡ [] = back-nil (is.above ++ is.rest) is.left all in
    let row : List ℕ → R = λ label. r.row level (kinds.Label label) (sizes (label ∷ [])) in
    let of : List (List ℕ) → List (List ℕ) → List (List ℕ) → List R = λ x ls y. label_rows row is.under x ++ (others_rows r level (map (λ label. sizes (label ∷ [])) ls) ++ label_rows row is.under y) in
    is.are ∙ (ap (λ x. of x is.left is.rest) (front-nil is.above is.rest stay) ∙ (ap (λ ls. of [] ls is.rest) left ∙ ap (λ y. of [] [] y) (back-nil is.above is.rest stay)))

no-amount : (m n : ℕ) → m ≡ n → amount m n ≡ 0
no-amount m n e = omega (arith, e)

unchanged : (o : RowOptions) (s : GrowthSizes) → IsAlike s → has_changed o s ≡ false
unchanged o s alike = rw (no-amount s.new_vm s.base_vm alike.vm, no-amount s.new_file s.base_file alike.file) (nothing-shown (shows_vm o.domain) (shows_file o.domain))

pub no-growth : NoGrowthHasNoRows
no-growth o sizes depth tree alike is = no-rows (growth_report o) depth 0 sizes tree.rows (λ label. unchanged o (sizes (label ∷ [])) (alike (label ∷ []))) is.rows

-- Sizes that are seen otherwise, with the same order.
module _ {S R : Type 0} (r : Report S R) (f : S → S) (g : R → R) (same-shown : (s : S) → r.is_shown (f s) ≡ r.is_shown s) (same-key : (s : S) → r.key (f s) ≡ r.key s)
    (same-sums : (ss : List S) → r.sums (map f ss) ≡ f (r.sums ss)) (same-row : (level : ℕ) (kind : RowKind) (s : S) → g (r.row level kind s) ≡ r.row level kind (f s)) where
  seen-labels : (level : ℕ) (sizes : List ℕ → S) (under : List ℕ → List R) (ls : List (List ℕ)) → map g (label_rows (λ l. r.row level (kinds.Label l) (sizes l)) under ls)
      ≡ label_rows (λ l. r.row level (kinds.Label l) (f (sizes l))) (λ l. map g (under l)) ls
  seen-labels level sizes under [] = refl
  seen-labels level sizes under (l ∷ ls) =
      let row : List ℕ → R = λ l. r.row level (kinds.Label l) (sizes l) in
      map-append g (row l ∷ under l) (label_rows row under ls) ∙ rw (same-row level (kinds.Label l) (sizes l), seen-labels level sizes under ls) refl

  seen-others : (level : ℕ) (ss : List S) → map g (others_rows r level ss) ≡ others_rows r level (map f ss)
  seen-others level [] = refl
  seen-others level (s ∷ ss) =
      let long : length (s ∷ ss) ≡ length (f s ∷ map f ss) = sym (length-map (s ∷ ss) f) in
      ap (λ x. x ∷ []) (same-row level (kinds.Others (length (s ∷ ss))) (r.sums (s ∷ ss)) ∙ (ap (λ n. r.row level (kinds.Others n) (f (r.sums (s ∷ ss)))) long ∙ ap (λ t. r.row level (kinds.Others (length (f s ∷ map f ss))) t) (sym (same-sums (s ∷ ss)))))

  seen-level : (level : ℕ) (sizes : List ℕ → S) (Under Seen : List ℕ → List R → Type 0) → ((l : List ℕ) (rows : List R) → Under l rows → Seen l (map g rows)) → (rows : List R)
      → AreRows r level sizes Under rows → AreRows r level (λ l. f (sizes l)) Seen (map g rows)
  seen-level level sizes Under Seen seen rows is =
      let own : r.key (r.sums (map (λ l. f (sizes l)) is.left)) ≡ r.key (r.sums (map sizes is.left)) =
      ap (λ ss. r.key (r.sums ss)) (sym (map-map f sizes is.left)) ∙ (ap r.key (same-sums (map sizes is.left)) ∙ same-key (r.sums (map sizes is.left))) in
      let shown : (λ (l : List ℕ). r.is_shown (f (sizes l))) ≡ (λ (l : List ℕ). r.is_shown (sizes l)) = fun_ext (λ l. same-shown (sizes l)) in
      let key : (λ (l : List ℕ). r.key (f (sizes l))) ≡ (λ (l : List ℕ). r.key (sizes l)) = fun_ext (λ l. same-key (sizes l)) in
      record {
        above = is.above;
        rest = is.rest;
        left = is.left;
        cut = subst (λ (k : List ℕ → ℕ). IsCut r.limit (λ l. r.is_shown (f (sizes l))) k (is.above ++ is.rest) is.left) (sym key)
            (subst (λ (s : List ℕ → Bool). IsCut r.limit s (λ l. r.key (sizes l)) (is.above ++ is.rest) is.left) (sym shown) is.cut);
        higher = λ k d lt. omega (arith, own, same-key (sizes (get_or is.above k d)), is.higher k d lt);
        lower = λ k d lt. omega (arith, own, same-key (sizes (get_or is.rest k d)), is.lower k d lt);
        under = λ l. map g (is.under l);
        below = λ k d lt. seen _ _ (is.below k d lt);
        are =
            let row : List ℕ → R = λ l. r.row level (kinds.Label l) (sizes l) in
            let first = label_rows row is.under is.above in
            let others = others_rows r level (map sizes is.left) in
            let last = label_rows row is.under is.rest in
            let left : map f (map sizes is.left) ≡ map (λ l. f (sizes l)) is.left = map-map f sizes is.left in
            ap (map g) is.are
            ∙ (map-append g first (others ++ last)
            ∙ (ap (λ xs. map g first ++ xs) (map-append g others last)
            ∙ rw (seen-labels level sizes is.under is.above, seen-labels level sizes is.under is.rest, seen-others level (map sizes is.left), left) refl));
      }

  pub seen-order : (levels level : ℕ) (sizes : Path → S) (rows : List R) → InReportOrder r levels level sizes rows → InReportOrder r levels level (λ path. f (sizes path)) (map g rows)
  seen-order zero level sizes rows is = ap (map g) is
  seen-order (suc levels) level sizes rows is =
      seen-level level (λ l. sizes (l ∷ [])) (λ l. InReportOrder r levels (level + 1) (λ path. sizes (l ∷ path))) (λ l. InReportOrder r levels (level + 1) (λ path. f (sizes (l ∷ path))))
      (λ l under. seen-order levels (level + 1) (λ path. sizes (l ∷ path)) under) rows is

same-amount : (m n : ℕ) → amount n m ≡ amount m n
same-amount m n = omega arith

turned-shown : (o : RowOptions) (s : GrowthSizes) → has_changed o (turned s) ≡ has_changed o s
turned-shown o s = rw (same-amount s.new_vm s.base_vm, same-amount s.new_file s.base_file) refl

turned-key : (o : RowOptions) (s : GrowthSizes) → growth_key o (turned s) ≡ growth_key o s
turned-key o s = rw (same-amount s.new_vm s.base_vm, same-amount s.new_file s.base_file) refl

turned-sums : (ss : List GrowthSizes) → sums_by (λ (s : GrowthSizes). s) (map turned ss) ≡ turned (sums_by (λ (s : GrowthSizes). s) ss)
turned-sums ss =
    same_sizes (sums_by (λ (s : GrowthSizes). s) (map turned ss)) (turned (sums_by (λ (s : GrowthSizes). s) ss)) (sum_by-map (λ (s : GrowthSizes). s.new_vm) turned ss) (sum_by-map (λ (s : GrowthSizes). s.new_file) turned ss)
    (sum_by-map (λ (s : GrowthSizes). s.base_vm) turned ss) (sum_by-map (λ (s : GrowthSizes). s.base_file) turned ss)

pub growth-turns : GrowthTurns
growth-turns o sizes depth tree is = record {
  levels = is.levels;
  totals = ap turned is.totals;
  rows = seen-order (growth_report o) turned turned_row (turned-shown o) (turned-key o) turned-sums (λ level kind s. refl) depth 0 sizes tree.rows is.rows;
}
