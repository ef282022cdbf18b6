-- Groups are collected label by label.
use Rattle.std.proofs.Common.{◌≡◌, ℕ, ◌<◌, ◌≤◌, List, [], ◌∷◌, ◌++◌, length, drop, get_or, map, sym, ap, ◌∙◌, Bool, true, false, cond, arith}
use Rattle.std.specs.Prelude.{All, filter}
use Rattle.std.proofs.lemmas.List.{map-append, append-nil, append_assoc, drop_all, length-map}
use Rattle.std.proofs.lemmas.List.Elements.{All-push}
use Rattle.path_rows.specs.declared.row.RollupRow.{RollupRow}
use Rattle.report_rows.specs.declared.groups.Group.{Group}
use Rattle.report_rows.specs.declared.row.RowOptions.{RowOptions}
use Rattle.report_rows.specs.Groups.{table_at, labels_at, group_label, IsPart, IsGroup, IsBorder}
use Rattle.report_rows.specs.Keys.{is_shown}
use Rattle.report_rows.specs.Tables.{Table, first_labels}
use Rattle.report_rows.specs.Rows.{Entry, has_shown}
use Rattle.report_rows.proofs.GroupLemmas.{deep_of}
use Rattle.report_rows.proofs.RunLemmas.{IsRun, run-labels}

pub one-more : {X Y : Type 0} (f : X → Y) (xs : List X) (x : X) (ys : List Y) (b : Bool) → map f (xs ++ cond b (x ∷ []) []) ++ ys ≡ map f xs ++ cond b (f x ∷ ys) ys
one-more f xs x ys true = ap (λ zs. zs ++ ys) (map-append f xs (x ∷ [])) ∙ append_assoc (map f xs) (f x ∷ []) ys
one-more f xs x ys false = ap (λ zs. map f zs ++ ys) (append-nil xs)

pub All-kept : {X : Type 0} (P : X → Type 0) (xs : List X) (x : X) (b : Bool) → All P xs → P x → All P (xs ++ cond b (x ∷ []) [])
All-kept P xs x true all one = All-push P xs x all one
All-kept P xs x false all one = rw append-nil all

module _ (o : RowOptions) (depth level : ℕ) (all : List RollupRow) (groups : List Group) (g : Group) where
  abbrev table : Table
  table = table_at level all

  abbrev here : List ℕ
  here = group_label level all g

  pub group-run : IsPart depth level all → level < depth → IsGroup o level all g → IsBorder (labels_at level all) g.from → IsBorder (labels_at level all) g.to
      → ((k : ℕ) → g.from ≤ k → k < g.to → get_or (labels_at level all) k [] ≡ here) → IsRun level all here g.from g.to
  group-run part below group first last same =
      let long : length (labels_at level all) ≡ length all = length-map all (λ (r : RollupRow). get_or r.path level []) in
      record {
        deep = deep_of depth level all part below;
        some = group.some;
        within = group.within;
        same = same;
        before = λ k lt. first k g.from lt (omega arith) (omega (arith, group.some, group.within));
        after = λ k low high. λ h. last g.from k group.some low (omega arith) (sym h);
      }

  shown-here : IsGroup o level all g → has_shown o table here ≡ is_shown o g.vm g.file
  shown-here group = sym (ap (λ (e : Entry). is_shown o e.vm e.file) group.entry)

  pub gather : IsGroup o level all g → IsRun level all here g.from g.to
      → map (group_label level all) groups ++ filter (has_shown o table) (first_labels (table_at level (drop g.from all))) ≡ filter (has_shown o table) (first_labels table)
      → map (group_label level all) (groups ++ cond (is_shown o g.vm g.file) (g ∷ []) []) ++ filter (has_shown o table) (first_labels (table_at level (drop g.to all))) ≡ filter (has_shown o table) (first_labels table)
  gather group run so-far =
      let rest = filter (has_shown o table) (first_labels (table_at level (drop g.to all))) in
      one-more (group_label level all) groups g rest (is_shown o g.vm g.file)
      ∙ (ap (λ (b : Bool). map (group_label level all) groups ++ cond b (here ∷ rest) rest) (sym (shown-here group))
      ∙ (ap (λ labels. map (group_label level all) groups ++ filter (has_shown o table) labels) (sym (run-labels level all here g.from g.to run)) ∙ so-far))

pub none-left : (o : RowOptions) (level : ℕ) (all : List RollupRow) (table : Table) (from : ℕ) (labels : List (List ℕ)) → length all ≤ from
    → labels ++ filter (has_shown o table) (first_labels (table_at level (drop from all))) ≡ labels
unfolding first_labels
none-left o level all table from labels le = rw (drop_all from all le) (append-nil labels)
