-- The records of a report without a limit are those of its full paths.
use Rattle.std.proofs.Common.{◌≡◌, ℕ, zero, suc, ◌+◌, ◌-◌, ◌<◌, ◌≤◌, ◌==◌, ◌||◌, ◌&&◌, not, Bool, true, false, cond, List, [], ◌∷◌, ◌++◌, length, get_or, map, flat_map, decimal, refl, sym, ap, subst, ◌∙◌, append_assoc, arith}
use Rattle.std.specs.Prelude.{All, nat_lt}
use Rattle.std.specs.Str.{bytes_eq}
use Rattle.std.proofs.lemmas.Bool.{eq-eqb, ne_eqb}
use Rattle.std.proofs.lemmas.Grind.{common_steps, flat_map-append}
use Rattle.std.proofs.lemmas.List.{append-nil, map-append}
use Rattle.std.proofs.lemmas.List.Elements.{All-append, All-cons, All-head, All-map, All-nil, All-tail, All-weaker}
use Rattle.std.proofs.lemmas.List.Sums.{sum_by-append}
use Rattle.report_rows.specs.declared.row.Row.{Row}
use Rattle.report_rows.specs.declared.row.RowKind.TheVariants.{Label}
use Rattle.report_rows.specs.declared.row.RowOptions.{RowOptions}
use Rattle.report_rows.specs.declared.row.RowTree.{RowTree}
use Rattle.report_rows.specs.Keys.{is_shown}
use Rattle.report_rows.specs.Ordered.{AreRows, InReportOrder, IsCut, Report, label_rows, others_rows}
use Rattle.report_rows.specs.Paths.{Path, times}
use Rattle.report_rows.specs.Shown.{shown, shows_file, shows_vm}
use Rattle.report_rows.specs.SizeTrees.{IsTreeOfSizes, Sizes, both_sizes, size_report}
use Rattle.report_rows.specs.Trees.{AreLevels, IsTree, has_children, is_others}
use Rattle.report_rows.proofs.CutLemmas.{times-cons}
use Rattle.report_rows.proofs.TableLemmas.{same_bytes, sum-zero, sum_by-map, sum_by-same}
use Rattle.size_growth.specs.declared.growth.GrowthSizes.{GrowthSizes}
use Rattle.size_growth.specs.declared.row.GrowthTree.{GrowthTree}
use Rattle.size_growth.specs.GrowthTrees.{IsTreeOfGrowths, growth_report}
use Rattle.size_growth.specs.Keys.{has_changed}
use Rattle.size_growth.specs.Trees.{IsGrowthTree, new_row}
use Rattle.report_text.specs.Growth.{growth_csv_text, growth_fields, growth_tsv_text}
use Rattle.report_text.specs.PathRecords.{AreOfPaths, EachGrowthHasARecord, EachPathHasARecord, Narrows, along, same_path, shown_growths, times_path}
use Rattle.report_text.specs.Records.{Fields, csv_text, labels_above, leaf_records, path_fields, row_fields, size_fields, tsv_text, vm_first}
use Rattle.report_text.proofs.BackLemmas.{table-back}
use Rattle.report_text.proofs.RecordLemmas.{plain_tree}

map-map : {X Y Z : Type 0} (f : Y → Z) (g : X → Y) (xs : List X) → map f (map g xs) ≡ map (λ x. f (g x)) xs
map-map f g [] = refl
map-map f g (x ∷ xs) = ap (λ ys. f (g x) ∷ ys) (map-map f g xs)

map-same : {X Y : Type 0} (f g : X → Y) → ((x : X) → f x ≡ g x) → (xs : List X) → map f xs ≡ map g xs
map-same f g same [] = refl
map-same f g same (x ∷ xs) = ap (λ y. y ∷ map f xs) (same x) ∙ ap (λ ys. g x ∷ ys) (map-same f g same xs)

-- Rows of any type that have the level and the name of rows of sizes.
module _ {R : Type 0} (as_row : R → Row) (sizes_of : R → Fields) (depth : ℕ) where
  -- The rows before some rows, and these, the last one first.
  after : List Row → List R → List Row
  after before [] = before
  after before (x ∷ xs) = after (as_row x ∷ before) xs

  after-append : (before : List Row) (xs ys : List R) → after before (xs ++ ys) ≡ after (after before xs) ys
  unfolding after
  after-append before [] ys = refl
  after-append before (x ∷ xs) ys = after-append (as_row x ∷ before) xs ys

  -- Whether a row is one of those that have a record: an Others row or a row of the last level.
  abbrev is_leaf : Row → Bool
  is_leaf r = is_others r.kind || (r.level + 1 == depth)

  abbrev leaf : List Row → R → List Fields
  leaf before x = cond (is_leaf (as_row x)) (row_fields depth (labels_above (as_row x).level before) (as_row x) (sizes_of x) ∷ []) []

  leaves : List Row → List R → List Fields
  leaves before [] = []
  leaves before (x ∷ xs) = leaf before x ++ leaves (as_row x ∷ before) xs

  leaves-append : (before : List Row) (xs ys : List R) → leaves before (xs ++ ys) ≡ leaves before xs ++ leaves (after before xs) ys
  unfolding leaves after
  leaves-append before [] ys = refl
  leaves-append before (x ∷ xs) ys =
      ap (λ fs. leaf before x ++ fs) (leaves-append (as_row x ∷ before) xs ys) ∙ sym (append_assoc (leaf before x) (leaves (as_row x ∷ before) xs) (leaves (after (as_row x ∷ before) xs) ys))

  turned : (b c : Bool) (fields : Fields) → b ≡ not c → cond b [] (fields ∷ []) ≡ cond c (fields ∷ []) []
  turned b true fields e = rw e refl
  turned b false fields e = rw e refl

  -- In a tree the rows without children are these rows.
  leaves-are : (highest : ℕ) (before : List Row) (xs : List R) → AreLevels depth highest (map as_row xs) → leaf_records as_row sizes_of depth before xs ≡ leaves before xs
  unfolding leaf_records leaves
  leaves-are highest before [] is = refl
  leaves-are highest before (x ∷ xs) is =
      ap (λ fs. fs ++ leaf_records as_row sizes_of depth (as_row x ∷ before) xs)
      (turned (has_children (as_row x) (map as_row xs)) (is_leaf (as_row x)) (row_fields depth (labels_above (as_row x).level before) (as_row x) (sizes_of x)) is.2)
      ∙ ap (λ fs. leaf before x ++ fs) (leaves-are ((as_row x).level + 1) (as_row x ∷ before) xs is.3)

none-times : (b : Bool) → ◌≡◌ {A = ℕ} 0 (cond b 0 0)
none-times true = refl
none-times false = refl

more-times : (b c : Bool) (n : ℕ) → cond b (cond c 1 0) 0 + cond c n 0 ≡ cond c (cond b 1 0 + n) 0
more-times true true n = refl
more-times true false n = refl
more-times false true n = refl
more-times false false n = refl

-- A row is not above the rows of its own level or a higher one.
not-above : (k : ℕ) (r : Row) (before : List Row) → k ≤ r.level → labels_above k (r ∷ before) ≡ labels_above k before
unfolding labels_above
not-above k r before le =
    let e : nat_lt r.level k ≡ false = grind (arith, common_steps) in
    rw e refl

is-above : (level : ℕ) (r : Row) (l : List ℕ) (before : List Row) → r.level ≡ level → r.kind ≡ Label l → labels_above (level + 1) (r ∷ before) ≡ labels_above level before ++ l ∷ []
unfolding labels_above
is-above level r l before at kind =
    let e : nat_lt level (level + 1) ≡ true = grind (arith, common_steps) in
    rw (at, kind, e) refl

-- A report without a limit.
module _ {S R : Type 0} (r : Report S R) (unlimited : r.limit ≡ 0) (as_row : R → Row) (sizes_of : R → Fields) (fields_of : S → Fields)
    (level-is : (level : ℕ) (l : List ℕ) (s : S) → (as_row (r.row level (Label l) s)).level ≡ level)
    (kind-is : (level : ℕ) (l : List ℕ) (s : S) → (as_row (r.row level (Label l) s)).kind ≡ Label l)
    (fields-are : (level : ℕ) (l : List ℕ) (s : S) → sizes_of (r.row level (Label l) s) ≡ fields_of s) (depth : ℕ) where
  abbrev row : ℕ → (Path → S) → List ℕ → R
  row level sizes label = r.row level (Label label) (sizes (label ∷ []))

  abbrev records : List Row → List R → List Fields
  records before rows = leaves as_row sizes_of depth before rows

  -- Rows of this level or deeper, under a path: their records are those of the paths of n more labels.
  record Block (prefix : Path) (level n : ℕ) (sizes : Path → S) (before : List Row) (rows : List R) : Type 0 where
    paths : List Path
    full : All (λ (p : Path). length p ≡ n) paths
    each : (p : Path) → length p ≡ n → times_path p paths ≡ cond (along r.is_shown sizes p) 1 0
    are : records before rows ≡ map (λ (p : Path). (prefix ++ p) ++ fields_of (sizes p)) paths
    keeps : (k : ℕ) → k ≤ level → labels_above k (after as_row sizes_of depth before rows) ≡ labels_above k before

  -- The rows of some labels of a level, and those under them.
  record Chain (prefix : Path) (level n : ℕ) (sizes : Path → S) (under : List ℕ → List R) (stay : List (List ℕ)) (before : List Row) : Type 0 where
    paths : List Path
    full : All (λ (p : Path). length p ≡ suc n) paths
    each : (label : List ℕ) (p : Path) → length p ≡ n → times_path (label ∷ p) paths ≡ cond (along r.is_shown (λ q. sizes (label ∷ q)) p) (times label stay) 0
    are : records before (label_rows (row level sizes) under stay) ≡ map (λ (p : Path). (prefix ++ p) ++ fields_of (sizes p)) paths
    keeps : (k : ℕ) → k ≤ level → labels_above k (after as_row sizes_of depth before (label_rows (row level sizes) under stay)) ≡ labels_above k before

  module _ (prefix : Path) (level n : ℕ) (sizes : Path → S) (under : List ℕ → List R) where
    -- The rows of a label and those under it.
    abbrev OfLabel : List ℕ → Type 0
    OfLabel l = (before : List Row) → labels_above level before ≡ prefix → Block (prefix ++ l ∷ []) level n (λ p. sizes (l ∷ p)) before (row level sizes l ∷ under l)

    abbrev seen : List ℕ → Path → Bool
    seen l p = along r.is_shown (λ q. sizes (l ∷ q)) p

    -- How often a path is among those of one label.
    own-times : (l label : List ℕ) (p : Path) (paths : List Path) (b : Bool) → bytes_eq l label ≡ b → times_path p paths ≡ cond (seen l p) 1 0
        → times_path (label ∷ p) (map (λ q. l ∷ q) paths) ≡ cond b (cond (seen label p) 1 0) 0
    own-times l label p paths true e each =
        sum_by-map (λ (q : Path). cond (same_path q (label ∷ p)) 1 0) (λ (q : Path). l ∷ q) paths
        ∙ (sum_by-same (λ (q : Path). cond (bytes_eq l label && same_path q p) 1 0) (λ (q : Path). cond (same_path q p) 1 0) paths (λ q. rw e refl)
        ∙ (each ∙ ap (λ x. cond (seen x p) 1 0) (same_bytes l label e)))
    own-times l label p paths false e each =
        sum_by-map (λ (q : Path). cond (same_path q (label ∷ p)) 1 0) (λ (q : Path). l ∷ q) paths
        ∙ (sum_by-same (λ (q : Path). cond (bytes_eq l label && same_path q p) 1 0) (λ (q : Path). 0) paths (λ q. rw e refl)
        ∙ sum-zero paths)

    chain : (stay : List (List ℕ)) (before : List Row) → labels_above level before ≡ prefix → All OfLabel stay → Chain prefix level n sizes under stay before
    unfolding leaves after
    chain [] before here all = record {
      paths = [];
      full = All-nil (λ (p : Path). length p ≡ suc n);
      each = λ label p e. none-times (seen label p);
      are = refl;
      keeps = λ k le. refl;
    }
    chain (l ∷ stay) before here all =
        let b = All-head OfLabel l stay all before here in
        let mine = row level sizes l ∷ under l in
        let others = label_rows (row level sizes) under stay in
        let next = after as_row sizes_of depth before mine in
        let c = chain stay next (b.keeps level (omega arith) ∙ here) (All-tail OfLabel l stay all) in
        let text : Path → Fields = λ p. (prefix ++ p) ++ fields_of (sizes p) in
        let own : Path → Fields = λ p. ((prefix ++ l ∷ []) ++ p) ++ fields_of (sizes (l ∷ p)) in
        record {
          paths = map (λ (p : Path). l ∷ p) b.paths ++ c.paths;
          full = All-append (λ (p : Path). length p ≡ suc n) (map (λ (p : Path). l ∷ p) b.paths) c.paths
              (All-map (λ (p : Path). length p ≡ suc n) (λ (p : Path). l ∷ p) b.paths
              (All-weaker (λ (p : Path). length p ≡ n) (λ (p : Path). suc (length p) ≡ suc n) (λ p e. ap suc e) b.paths b.full)) c.full;
          each = λ label p e.
              sum_by-append (λ (q : Path). cond (same_path q (label ∷ p)) 1 0) (map (λ (q : Path). l ∷ q) b.paths) c.paths
              ∙ (omega (arith, own-times l label p b.paths (bytes_eq l label) refl (b.each p e), c.each label p e, more-times (bytes_eq l label) (seen label p) (times label stay))
              ∙ ap (λ k. cond (seen label p) k 0) (sym (times-cons label l stay (bytes_eq l label) refl)));
          are = leaves-append as_row sizes_of depth before mine others
              ∙ (ap (λ fs. fs ++ records next others) b.are
              ∙ (ap (λ fs. map own b.paths ++ fs) c.are
              ∙ (ap (λ fs. fs ++ map text c.paths)
              (map-same own (λ (p : Path). text (l ∷ p)) (λ p. ap (λ t. t ++ fields_of (sizes (l ∷ p))) (append_assoc prefix (l ∷ []) p)) b.paths
              ∙ sym (map-map text (λ (p : Path). l ∷ p) b.paths))
              ∙ sym (map-append text (map (λ (p : Path). l ∷ p) b.paths) c.paths))));
          keeps = λ k le. ap (labels_above k) (after-append as_row sizes_of depth before mine others) ∙ (c.keeps k le ∙ b.keeps k le);
        }

  -- A label's row is not above its own level, and it is above the next one.
  row-not-above : (k level : ℕ) (sizes : Path → S) (l : List ℕ) (before : List Row) → k ≤ level → labels_above k (as_row (row level sizes l) ∷ before) ≡ labels_above k before
  row-not-above k level sizes l before le =
      not-above k (as_row (row level sizes l)) before (rw (level-is level l (sizes (l ∷ []))) le)

  -- A row of the last level has the record of its path.
  last-record : (level : ℕ) (sizes : Path → S) (l : List ℕ) (prefix : Path) (before : List Row) → level + 1 ≡ depth → labels_above level before ≡ prefix
      → records before (row level sizes l ∷ []) ≡ ((prefix ++ l ∷ []) ++ fields_of (sizes (l ∷ []))) ∷ []
  unfolding leaves row_fields path_fields
  last-record level sizes l prefix before last here =
      let s = sizes (l ∷ []) in
      let none : depth - (level + 1) ≡ 0 = omega (arith, last) in
      rw (level-is level l s, kind-is level l s, fields-are level l s, eq-eqb (level + 1) depth last, none, here) refl

  -- A row of another level has none.
  no-record : (level : ℕ) (sizes : Path → S) (l : List ℕ) (before : List Row) (rows : List R) → (level + 1 ≡ depth → ⊥) → records before (row level sizes l ∷ rows) ≡ records (as_row (row level sizes l) ∷ before) rows
  unfolding leaves
  no-record level sizes l before rows more =
      let s = sizes (l ∷ []) in
      let inner : is_leaf as_row sizes_of depth (as_row (row level sizes l)) ≡ false = rw (level-is level l s, kind-is level l s, ne_eqb (level + 1) depth more) refl in
      ap (λ b. cond b (row_fields depth (labels_above (as_row (row level sizes l)).level before) (as_row (row level sizes l)) (sizes_of (row level sizes l)) ∷ []) [] ++ records (as_row (row level sizes l) ∷ before) rows) inner

  last-label : (level : ℕ) (sizes : Path → S) (l : List ℕ) (prefix : Path) (rows : List R) → level + 1 ≡ depth → rows ≡ []
      → (before : List Row) → labels_above level before ≡ prefix → Block (prefix ++ l ∷ []) level 0 (λ p. sizes (l ∷ p)) before (row level sizes l ∷ rows)
  unfolding after
  last-label level sizes l prefix rows last none before here = subst (λ (rs : List R). Block (prefix ++ l ∷ []) level 0 (λ p. sizes (l ∷ p)) before (row level sizes l ∷ rs)) (sym none) (record {
    paths = [] ∷ [];
    full = All-cons (λ (p : Path). length p ≡ 0) [] [] refl (All-nil (λ (p : Path). length p ≡ 0));
    each = one;
    are = last-record level sizes l prefix before last here ∙ ap (λ t. (t ++ fields_of (sizes (l ∷ []))) ∷ []) (sym (append-nil (prefix ++ l ∷ [])));
    keeps = λ k le. row-not-above k level sizes l before le;
  })
    where
      one : (p : Path) → length p ≡ 0 → times_path p ([] ∷ []) ≡ cond (along r.is_shown (λ q. sizes (l ∷ q)) p) 1 0
      one [] e = refl
      one (x ∷ p) e = absurd (omega (arith, e))

  inner-label : (level n : ℕ) (sizes : Path → S) (l : List ℕ) (prefix : Path) (rows : List R) → (level + 1 ≡ depth → ⊥)
      → ((before : List Row) → labels_above (level + 1) before ≡ prefix ++ l ∷ [] → Block (prefix ++ l ∷ []) (level + 1) n (λ p. sizes (l ∷ p)) before rows)
      → (before : List Row) → labels_above level before ≡ prefix → Block (prefix ++ l ∷ []) level n (λ p. sizes (l ∷ p)) before (row level sizes l ∷ rows)
  unfolding after
  inner-label level n sizes l prefix rows more below before here =
      let own = as_row (row level sizes l) in
      let s = sizes (l ∷ []) in
      let b = below (own ∷ before) (is-above level own l before (level-is level l s) (kind-is level l s) ∙ ap (λ ls. ls ++ l ∷ []) here) in
      record {
        paths = b.paths;
        full = b.full;
        each = b.each;
        are = no-record level sizes l before rows more ∙ b.are;
        keeps = λ k le. b.keeps k (omega (arith, le)) ∙ row-not-above k level sizes l before le;
      }

  none-left : (shown : List ℕ → Bool) (key : List ℕ → ℕ) (stay left : List (List ℕ)) → IsCut r.limit shown key stay left → left ≡ []
  none-left shown key stay [] cut = refl
  none-left shown key stay (l ∷ left) cut = absurd (omega (arith, unlimited, (cut.full (omega arith)).0))

  -- All labels of a level have a row.
  module _ (level : ℕ) (sizes : Path → S) (Under : List ℕ → List R → Type 0) (rows : List R) (is : AreRows r level (λ l. sizes (l ∷ [])) Under rows) where
    abbrev stay : List (List ℕ)
    stay = is.above ++ is.rest

    all-stay : is.left ≡ []
    all-stay = none-left _ _ stay is.left is.cut

    whole-level : rows ≡ label_rows (row level sizes) is.under stay
    whole-level =
        let one : List ℕ → List R = λ l. row level sizes l ∷ is.under l in
        is.are
        ∙ (ap (λ (ls : List (List ℕ)). flat_map one is.above ++ (others_rows r level (map (λ l. sizes (l ∷ [])) ls) ++ flat_map one is.rest)) all-stay
        ∙ sym (flat_map-append one is.above is.rest))

    all-times : (label : List ℕ) → times label stay ≡ cond (r.is_shown (sizes (label ∷ []))) 1 0
    all-times label =
        ap (times label) (sym (append-nil stay) ∙ ap (λ (ls : List (List ℕ)). stay ++ ls) (sym all-stay)) ∙ is.cut.each label

    one-more : (a b : Bool) (n : ℕ) → n ≡ cond a 1 0 → cond b n 0 ≡ cond (a && b) 1 0
    one-more true true n e = e
    one-more true false n e = refl
    one-more false true n e = e
    one-more false false n e = refl

    -- The rows of a level, given those of each label.
    level-block : (n : ℕ) (prefix : Path) → All (OfLabel prefix level n sizes is.under) stay → (before : List Row) → labels_above level before ≡ prefix → Block prefix level (suc n) sizes before rows
    level-block n prefix all before here =
        let c = chain prefix level n sizes is.under stay before here all in
        subst (Block prefix level (suc n) sizes before) (sym whole-level) (record {
          paths = c.paths;
          full = c.full;
          each = one c;
          are = c.are;
          keeps = c.keeps;
        })
      where
        one : (c : Chain prefix level n sizes is.under stay before) (p : Path) → length p ≡ suc n → times_path p c.paths ≡ cond (along r.is_shown sizes p) 1 0
        one c [] e = absurd (omega (arith, e))
        one c (l ∷ p) e =
            c.each l p (omega (arith, e)) ∙ one-more (r.is_shown (sizes (l ∷ []))) (along r.is_shown (λ q. sizes (l ∷ q)) p) (times l stay) (all-times l)

  block : (n level : ℕ) (sizes : Path → S) (prefix : Path) (rows : List R) → level + suc n ≡ depth → InReportOrder r (suc n) level sizes rows
      → (before : List Row) → labels_above level before ≡ prefix → Block prefix level (suc n) sizes before rows
  block zero level sizes prefix rows deep is =
      level-block level sizes _ rows is 0 prefix
      (λ k d lt. let l = get_or (is.above ++ is.rest) k d in
      last-label level sizes l prefix (is.under l) (omega (arith, deep)) (is.below k d lt))
  block (suc n) level sizes prefix rows deep is =
      level-block level sizes _ rows is (suc n) prefix
      (λ k d lt. let l = get_or (is.above ++ is.rest) k d in
      inner-label level (suc n) sizes l prefix (is.under l) (λ e. omega (arith, e, deep))
      (block n (level + 1) (λ p. sizes (l ∷ p)) (prefix ++ l ∷ []) (is.under l) (omega (arith, deep)) (is.below k d lt)))

  no-labels : labels_above 0 [] ≡ []
  unfolding labels_above
  no-labels = refl

  -- The records of the whole report.
  pub full-paths : (sizes : Path → S) (rows : List R) → 0 < depth → AreLevels depth 0 (map as_row rows) → InReportOrder r depth 0 sizes rows
      → AreOfPaths depth (along r.is_shown sizes) (λ p. fields_of (sizes p)) (leaf_records as_row sizes_of depth [] rows)
  full-paths sizes rows some levels is = by_depth depth refl
    where
      by_depth : (d : ℕ) → d ≡ depth → AreOfPaths depth (along r.is_shown sizes) (λ p. fields_of (sizes p)) (leaf_records as_row sizes_of depth [] rows)
      by_depth zero e = absurd (omega (arith, e, some))
      by_depth (suc n) e =
          let b = block n 0 sizes [] rows (omega (arith, e)) (subst (λ d. InReportOrder r d 0 sizes rows) (sym e) is) [] no-labels in
          record {
            paths = b.paths;
            full = All-weaker (λ (p : Path). length p ≡ suc n) (λ (p : Path). length p ≡ depth) (λ p long. long ∙ e) b.paths b.full;
            each = λ p long. b.each p (long ∙ sym e);
            are = leaves-are as_row sizes_of depth 0 [] rows levels ∙ b.are;
          }

-- A path is shown only if each path is that it begins with.
wider : (b : Bool) (less more : ℕ) → less ≤ more → nat_lt 0 (shown b less) ≡ true → nat_lt 0 (shown b more) ≡ true
wider true less more le e = grind (arith, common_steps)
wider false less more le e = e

either : (a b c d : Bool) → (a ≡ true → c ≡ true) → (b ≡ true → d ≡ true) → (a || b) ≡ true → (c || d) ≡ true
either true b c d first second e = rw (first refl) refl
either false b true d first second e = refl
either false b false d first second e = second e

-- The shown sizes of a path that begins with another are shown there.
nested : (o : RowOptions) (vm file : Path → ℕ) → Narrows vm → Narrows file → (path more : Path) → is_shown o (vm (path ++ more)) (file (path ++ more)) ≡ true → is_shown o (vm path) (file path) ≡ true
nested o vm file narrow_vm narrow_file path more =
    either (nat_lt 0 (shown (shows_vm o.domain) (vm (path ++ more)))) (nat_lt 0 (shown (shows_file o.domain) (file (path ++ more)))) _ _
    (wider (shows_vm o.domain) (vm (path ++ more)) (vm path) (narrow_vm path more))
    (wider (shows_file o.domain) (file (path ++ more)) (file path) (narrow_file path more))

implied : (a b : Bool) → (b ≡ true → a ≡ true) → (a && b) ≡ b
implied true b h = refl
implied false true h = h refl
implied false false h = refl

true-and : (a : Bool) → (a && true) ≡ a
true-and true = refl
true-and false = refl

-- If a path passes a test only if each path that it begins with does, it has a row if it passes.
passes-along : {S : Type 0} (test : S → Bool) (sizes : Path → S) → ((path more : Path) → test (sizes (path ++ more)) ≡ true → test (sizes path) ≡ true)
    → (l : List ℕ) (p : Path) → along test sizes (l ∷ p) ≡ test (sizes (l ∷ p))
passes-along test sizes inner l [] = true-and (test (sizes (l ∷ [])))
passes-along test sizes inner l (m ∷ p) =
    ap (λ b. test (sizes (l ∷ [])) && b) (passes-along test (λ q. sizes (l ∷ q)) (λ path more. inner (l ∷ path) more) m p)
    ∙ implied (test (sizes (l ∷ []))) (test (sizes (l ∷ m ∷ p))) (inner (l ∷ []) (m ∷ p))

-- The records of the paths with a shown size.
path-records : (o : RowOptions) (vm file : Path → ℕ) (depth : ℕ) (tree : RowTree) → o.limit ≡ 0 → 0 < depth → Narrows vm → Narrows file → IsTree depth tree.rows → IsTreeOfSizes o vm file depth tree
    → AreOfPaths depth (λ path. is_shown o (vm path) (file path)) (λ path. vm_first o.domain (decimal (vm path)) (decimal (file path)))
    (leaf_records (λ (r : Row). r) (size_fields o.domain) tree.depth [] tree.rows)
path-records o vm file depth tree unlimited some narrow_vm narrow_file levels is =
    let sizes = both_sizes vm file in
    let a = full-paths (size_report o) unlimited (λ (r : Row). r) (size_fields o.domain) (λ (s : Sizes). vm_first o.domain (decimal s.vm) (decimal s.file)) (λ level l s. refl) (λ level l s. refl) (λ level l s. refl)
    depth sizes tree.rows some (plain_tree depth tree.rows levels) is.rows in
    record {
      paths = a.paths;
      full = a.full;
      each = λ path long. a.each path long ∙ ap (λ b. cond b 1 0) (own path long);
      are = ap (λ d. leaf_records (λ (r : Row). r) (size_fields o.domain) d [] tree.rows) is.levels ∙ a.are;
    }
  where
    own : (path : Path) → length path ≡ depth → along (λ (s : Sizes). is_shown o s.vm s.file) (both_sizes vm file) path ≡ is_shown o (vm path) (file path)
    own [] long = absurd (omega (arith, long, some))
    own (l ∷ p) long = passes-along (λ (s : Sizes). is_shown o s.vm s.file) (both_sizes vm file) (nested o vm file narrow_vm narrow_file) l p

pub each-path : EachPathHasARecord
unfolding csv_text tsv_text
each-path o vm file depth tree sources unlimited some narrow_vm narrow_file levels is =
    let records = leaf_records (λ (r : Row). r) (size_fields o.domain) tree.depth [] tree.rows in
    let each = path-records o vm file depth tree unlimited some narrow_vm narrow_file levels is in
    record {
      csv = record {
        records = records;
        is = table-back 44 refl refl refl (λ (r : Row). r) (size_fields o.domain) tree.depth o.domain sources tree.rows;
        each = each;
      };
      tsv = record {
        records = records;
        is = table-back 9 refl refl refl (λ (r : Row). r) (size_fields o.domain) tree.depth o.domain sources tree.rows;
        each = each;
      };
    }

-- The records of the paths that have changed.
growth-records : (o : RowOptions) (sizes : Path → GrowthSizes) (depth : ℕ) (tree : GrowthTree) → o.limit ≡ 0 → 0 < depth → IsGrowthTree depth tree.rows → IsTreeOfGrowths o sizes depth tree
    → AreOfPaths depth (along (has_changed o) sizes) (λ path. shown_growths o.domain (sizes path)) (leaf_records new_row (growth_fields o.domain) tree.depth [] tree.rows)
growth-records o sizes depth tree unlimited some levels is =
    let a = full-paths (growth_report o) unlimited new_row (growth_fields o.domain) (shown_growths o.domain) (λ level l s. refl) (λ level l s. refl) (λ level l s. refl)
    depth sizes tree.rows some levels is.rows in
    record {
      paths = a.paths;
      full = a.full;
      each = a.each;
      are = ap (λ d. leaf_records new_row (growth_fields o.domain) d [] tree.rows) is.levels ∙ a.are;
    }

pub each-growth : EachGrowthHasARecord
unfolding growth_csv_text growth_tsv_text
each-growth o sizes depth tree sources unlimited some levels is =
    let records = leaf_records new_row (growth_fields o.domain) tree.depth [] tree.rows in
    let each = growth-records o sizes depth tree unlimited some levels is in
    record {
      csv = record {
        records = records;
        is = table-back 44 refl refl refl new_row (growth_fields o.domain) tree.depth o.domain sources tree.rows;
        each = each;
      };
      tsv = record {
        records = records;
        is = table-back 9 refl refl refl new_row (growth_fields o.domain) tree.depth o.domain sources tree.rows;
        each = each;
      };
    }
