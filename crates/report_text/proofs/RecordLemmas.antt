-- How a table grows record by record.
use Rattle.std.proofs.Common.{replicate, ◌≡◌, ℕ, zero, suc, ◌+◌, ◌-◌, ◌≤◌, Bool, true, false, cond, List, [], ◌∷◌, ◌++◌, Option, Some, length, map, take, drop, slice_get, refl, sym, ap, subst, ◌∙◌, arith}
use Rattle.std.specs.Prelude.{nat_lt}
use Rattle.std.specs.List.{flat_map}
use Rattle.std.proofs.lemmas.Bool.{ltb-true, ltb-false}
use Rattle.std.proofs.lemmas.List.{append_assoc, length-take, length_push, take_all, take-take, take-append-le, drop_more, drop_all, append-nil, map-id}
use Rattle.std.proofs.lemmas.Grind.{common_steps, flat_map-append}
use Rattle.std.proofs.lemmas.Option.{slice_get_within, get_or_from_slice_get}
use Rattle.csv.specs.Writing.{row_text, text_written}
use Rattle.csv.specs.declared.writer.Writer.{Writer}
use Rattle.size_core.specs.declared.choices.Domain.{Domain}
use Rattle.report_rows.specs.declared.row.Row.{Row}
use Rattle.report_rows.specs.declared.row.RowKind.{RowKind}
use Rattle.report_rows.specs.declared.row.RowKind.TheVariants.{Label, Others}
use Rattle.report_rows.specs.Trees.{has_children, AreLevels, IsTree}
use Rattle.report_text.specs.Between.{IsReady, IsPath, HasCome, entered}
use Rattle.report_text.specs.Labels.{kind_text}
use Rattle.report_text.specs.Records.{Fields, delimited, labels_above, header_fields, path_fields, row_fields, leaf_record, leaf_records, table_text}

-- The rows from index i on.
pub rows-from : {X : Type 0} (xs : List X) (i : ℕ) (x : X) → slice_get xs i ≡ Some x → drop i xs ≡ x ∷ drop (i + 1) xs
rows-from xs i x e =
    drop_more xs i x (slice_get_within xs i x e) ∙ ap (λ y. y ∷ drop (i + 1) xs) (get_or_from_slice_get xs i x x e)

-- Whether the next row has a greater level.
pub children-next : {X : Type 0} (as_row : X → Row) (xs : List X) (i : ℕ) (x row next : X) → slice_get xs i ≡ Some x → slice_get xs (i + 1) ≡ Some next → slice_get xs i ≡ Some row
    → nat_lt (as_row x).level (as_row next).level ≡ has_children (as_row row) (map as_row (drop (i + 1) xs))
children-next as_row xs i x row next at after is =
    let same : x ≡ row = cc in
    rw (rows-from xs (i + 1) next after, same) refl

-- The fields of a row's record.
pub row-fields : (depth : ℕ) (above : Fields) (r : Row) (sizes p q : Fields) → p ≡ path_fields depth above r → q ≡ p ++ sizes → q ≡ row_fields depth above r sizes
unfolding row_fields
row-fields depth above r sizes p q path fields = fields ∙ rw path refl

-- The fields of a row's path.
pub path-fields : (depth level count : ℕ) (above : Fields) (r : Row) (text : List ℕ) (p q s : Fields) → level ≡ r.level → count ≡ depth - (level + 1) → text ≡ kind_text r.kind → p ≡ above
    → q ≡ p ++ (text ∷ []) → s ≡ q ++ replicate count [] → s ≡ path_fields depth above r
unfolding path_fields
path-fields depth level count above r text p q s at rest is path with_text all =
    all ∙ ap (λ (x : Fields). x ++ replicate count []) (with_text ∙ ap (λ (x : Fields). x ++ (text ∷ [])) path ∙ ap (λ (t : List ℕ). above ++ (t ∷ [])) is)
    ∙ ap (λ (n : ℕ). (above ++ (kind_text r.kind ∷ [])) ++ replicate n []) (rest ∙ ap (λ (n : ℕ). depth - (n + 1)) at)
    ∙ append_assoc above (kind_text r.kind ∷ []) (replicate (depth - (r.level + 1)) [])

-- The record of a row without children.
pub leaf-written : {X : Type 0} (f : Fields → List ℕ) (as_row : X → Row) (sizes : X → Fields) (depth : ℕ) (above : Fields) (xs : List X) (i : ℕ) (x row : X) (text : List ℕ) (has : Bool)
    → slice_get xs i ≡ Some x → slice_get xs i ≡ Some row → has ≡ has_children (as_row row) (map as_row (drop (i + 1) xs)) → has ≡ false
    → text ++ f (row_fields depth above (as_row x) (sizes x)) ≡ text ++ flat_map f (leaf_record depth above (as_row row) (sizes row) (map as_row (drop (i + 1) xs)))
leaf-written f as_row sizes depth above xs i x row text has at is test childless =
    let none = sym test ∙ childless in
    let same : x ≡ row = cc in
    ap (λ y. text ++ y) (ap (λ y. f (row_fields depth above (as_row y) (sizes y))) same ∙ rw none (sym (append-nil (f (row_fields depth above (as_row row) (sizes row))))))

-- A tree of rows that are used unchanged.
pub plain_tree : (depth : ℕ) (rows : List Row) → IsTree depth rows → IsTree depth (map (λ (r : Row). r) rows)
plain_tree depth rows is = subst (IsTree depth) (sym (map-id rows)) is

pub from_plain : (depth : ℕ) (rows : List Row) → IsTree depth (map (λ (r : Row). r) rows) → IsTree depth rows
from_plain depth rows is = subst (IsTree depth) (map-id rows) is

-- No row follows one without children on a greater level.
lower : (depth : ℕ) (r : Row) (rows : List Row) → has_children r rows ≡ false → AreLevels depth (r.level + 1) rows → AreLevels depth r.level rows
lower depth r [] e all = all
lower depth r (n ∷ rows) e all = (ltb-false r.level n.level e, all.1, all.2, all.3)

-- The path after a row with a label.
path-label : (h : ℕ) (path : Fields) (before : List Row) (r : Row) (label : List ℕ) → IsPath h path before → r.level ≤ h → r.kind ≡ Label label → IsPath (r.level + 1) (take r.level path ++ (label ∷ [])) (r ∷ before)
unfolding labels_above
path-label h path before r label is le kind =
    let reach : length (take r.level path) ≡ r.level = omega (arith, length-take r.level path, is.long) in
    record {
      long = omega (arith, length_push (take r.level path) label);
      labels = λ level at. by_test level at (nat_lt r.level level) refl;
    }
  where
    by_test : (level : ℕ) → level ≤ r.level + 1 → (b : Bool) → nat_lt r.level level ≡ b → take level (take r.level path ++ (label ∷ [])) ≡ cond b (labels_above r.level before ++ (kind_text r.kind ∷ [])) (labels_above level before)
    by_test level at true e =
        let reach : length (take r.level path) ≡ r.level = omega (arith, length-take r.level path, is.long) in
        take_all level (take r.level path ++ (label ∷ [])) (omega (arith, length_push (take r.level path) label, ltb-true r.level level e))
        ∙ (ap (λ x. x ++ (label ∷ [])) (is.labels r.level le)
        ∙ ap (λ k. labels_above r.level before ++ (kind_text k ∷ [])) (sym kind))
    by_test level at false e =
        let reach : length (take r.level path) ≡ r.level = omega (arith, length-take r.level path, is.long) in
        take-append-le level (take r.level path) (label ∷ []) (omega (arith, ltb-false r.level level e))
        ∙ (take-take level r.level path (ltb-false r.level level e) ∙ is.labels level (omega (arith, ltb-false r.level level e)))

-- The path after a row that has no rows under it.
path-others : (h : ℕ) (path : Fields) (before : List Row) (r : Row) → IsPath h path before → r.level ≤ h → IsPath r.level (take r.level path) (r ∷ before)
unfolding labels_above
path-others h path before r is le = record {
  long = omega (arith, length-take r.level path, is.long);
  labels = λ level at.
      let e : nat_lt r.level level ≡ false = grind (arith, common_steps) in
      rw e (take-take level r.level path at ∙ is.labels level (omega arith));
}

-- The records from a row on.
rest-one : {X : Type 0} (f : Fields → List ℕ) (as_row : X → Row) (sizes : X → Fields) (depth : ℕ) (before : List Row) (x : X) (xs : List X) (text whole : List ℕ) (above : Fields)
    → above ≡ labels_above (as_row x).level before → text ++ flat_map f (leaf_records as_row sizes depth before (x ∷ xs)) ≡ whole
    → (text ++ flat_map f (leaf_record depth above (as_row x) (sizes x) (map as_row xs))) ++ flat_map f (leaf_records as_row sizes depth (as_row x ∷ before) xs) ≡ whole
unfolding leaf_records
rest-one f as_row sizes depth before x xs text whole above same e =
    let one = leaf_record depth above (as_row x) (sizes x) (map as_row xs) in
    let others = leaf_records as_row sizes depth (as_row x ∷ before) xs in
    append_assoc text (flat_map f one) (flat_map f others)
    ∙ (ap (λ y. text ++ y) (sym (flat_map-append f one others))
    ∙ (ap (λ a. text ++ flat_map f (leaf_record depth a (as_row x) (sizes x) (map as_row xs) ++ others)) same ∙ e))

-- One more row.
pub come-one : {W : Type 0} {X : Type 0} (contents : W → Option (List ℕ)) (delimiter : ℕ) (as_row : X → Row) (sizes : X → Fields) (depth : ℕ) (xs : List X) (whole : List ℕ) (i : ℕ) (path : Fields) (w w' : Writer W) (x : X)
    → slice_get xs i ≡ Some x → HasCome contents delimiter as_row sizes depth xs whole i path w
    → ((text : List ℕ) → IsReady contents delimiter w text
    → IsReady contents delimiter w' (text ++ flat_map (row_text (delimited delimiter)) (leaf_record depth (take (as_row x).level path) (as_row x) (sizes x) (map as_row (drop (i + 1) xs)))))
    → HasCome contents delimiter as_row sizes depth xs whole (i + 1) (entered (take (as_row x).level path) (as_row x).kind) w'
come-one {W} {X} contents delimiter as_row sizes depth xs whole i path w w' x at come put =
    let from = rows-from xs i x at in
    let levels : AreLevels depth come.highest (r ∷ rows) = subst (λ ys. AreLevels depth come.highest (map as_row ys)) from come.levels in
    let rest : come.text ++ flat_map f (leaf_records as_row sizes depth come.before (x ∷ drop (i + 1) xs)) ≡ whole =
    subst (λ ys. come.text ++ flat_map f (leaf_records as_row sizes depth come.before ys) ≡ whole) from come.rest in
    by_kind r.kind refl levels (rest-one f as_row sizes depth come.before x (drop (i + 1) xs) come.text whole (take r.level path) (come.on_path.labels r.level levels.0) rest)
  where
    f : Fields → List ℕ
    f = row_text (delimited delimiter)

    r : Row
    r = as_row x

    rows : List Row
    rows = map as_row (drop (i + 1) xs)

    written : List ℕ
    written = come.text ++ flat_map f (leaf_record depth (take r.level path) r (sizes x) rows)

    by_kind : (k : RowKind) → r.kind ≡ k → AreLevels depth come.highest (r ∷ rows) → written ++ flat_map f (leaf_records as_row sizes depth (r ∷ come.before) (drop (i + 1) xs)) ≡ whole
        → HasCome contents delimiter as_row sizes depth xs whole (i + 1) (entered (take r.level path) k) w'
    by_kind (Label label) kind levels rest = record {
      before = r ∷ come.before;
      highest = r.level + 1;
      text = written;
      levels = levels.3;
      on_path = path-label come.highest path come.before r label come.on_path levels.0 kind;
      ready = put come.text come.ready;
      rest = rest;
    }
    by_kind (Others count) kind levels rest = record {
      before = r ∷ come.before;
      highest = r.level;
      text = written;
      levels = lower depth r rows (levels.2 ∙ rw kind refl) levels.3;
      on_path = path-others come.highest path come.before r come.on_path levels.0;
      ready = put come.text come.ready;
      rest = rest;
    }

pub come-none : {W : Type 0} {X : Type 0} (contents : W → Option (List ℕ)) (delimiter : ℕ) (as_row : X → Row) (sizes : X → Fields) (depth : ℕ) (domain : Domain) (sources : List (List ℕ)) (xs : List X) (path : Fields) (w : Writer W)
    → IsTree depth (map as_row xs) → path ≡ [] → IsReady contents delimiter w (row_text (delimited delimiter) (header_fields sources domain))
    → HasCome contents delimiter as_row sizes depth xs (table_text delimiter as_row sizes depth domain sources xs) 0 path w
unfolding labels_above table_text
come-none contents delimiter as_row sizes depth domain sources xs path w levels none ready = record {
  before = [];
  highest = 0;
  text = row_text (delimited delimiter) (header_fields sources domain);
  levels = levels;
  on_path = record { long = omega arith; labels = λ level at. nothing level at };
  ready = ready;
  rest = refl;
}
  where
    nothing : (level : ℕ) → level ≤ 0 → take level path ≡ []
    nothing zero at = refl
    nothing (suc level) at = absurd (omega arith)

-- All rows have been processed.
pub come-all : {W : Type 0} {X : Type 0} (contents : W → Option (List ℕ)) (delimiter : ℕ) (as_row : X → Row) (sizes : X → Fields) (depth : ℕ) (xs : List X) (whole : List ℕ) (i : ℕ) (path : Fields) (w : Writer W)
    → length xs ≤ i → HasCome contents delimiter as_row sizes depth xs whole i path w → text_written contents w ≡ Some whole
unfolding leaf_records
come-all contents delimiter as_row sizes depth xs whole i path w past come =
    let f = row_text (delimited delimiter) in
    let rest : come.text ++ flat_map f (leaf_records as_row sizes depth come.before []) ≡ whole =
    subst (λ ys. come.text ++ flat_map f (leaf_records as_row sizes depth come.before ys) ≡ whole) (drop_all i xs past) come.rest in
    come.ready.is ∙ ap (λ y. Some y) (sym (append-nil come.text) ∙ rest)
