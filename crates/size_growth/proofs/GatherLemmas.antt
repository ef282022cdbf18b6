-- Groups are collected run by run, and are in order.
use Rattle.std.proofs.Common.{◌≡◌, ℕ, ◌+◌, ◌<◌, ◌≤◌, List, [], ◌∷◌, ◌++◌, length, drop, get_or, map, sym, ap, ◌∙◌, Bool, true, false, cond, arith}
use Rattle.std.specs.Prelude.{All, filter}
use Rattle.std.specs.List.{AllByRecursion}
use Rattle.std.proofs.lemmas.List.{append-nil}
use Rattle.std.proofs.lemmas.List.Elements.{All-head, All-tail}
use Rattle.report_rows.specs.declared.groups.Kind.{Kind}
use Rattle.report_rows.specs.declared.groups.Kind.TheVariants.{Label}
use Rattle.report_rows.specs.declared.row.RowOptions.{RowOptions}
use Rattle.report_rows.proofs.GatherLemmas.{one-more}
use Rattle.size_growth.specs.declared.groups.Group.{Group}
use Rattle.size_growth.specs.declared.growth.GrowthPath.{GrowthPath}
use Rattle.size_growth.specs.declared.growth.GrowthSizes.{GrowthSizes}
use Rattle.size_growth.specs.GroupKinds.{kind_of}
use Rattle.size_growth.specs.Groups.{IsGroup, IsRun, Rise, group_entry, labels_at, mid}
use Rattle.size_growth.specs.Keys.{has_changed}
use Rattle.size_growth.specs.Rows.{Entry, is_child, label_entry}
use Rattle.size_growth.specs.Runs.{Under, runs, table_at}
use Rattle.size_growth.proofs.RunLemmas.{run-front, runs-end}
use Rattle.size_growth.proofs.SumLemmas.{sums_table}

-- A group represents its run.
pub group-is : (o : RowOptions) (level : ℕ) (paths : List GrowthPath) (g : Group) → IsGroup o paths g
    → label_entry (record { label = get_or (labels_at level paths) g.from []; below = table_at (level + 1) (mid g.from g.to paths) }) ≡ group_entry level paths g
group-is o level paths g group =
    let label = get_or (labels_at level paths) g.from [] in
    let one : Kind → GrowthSizes → Entry = λ k s. record { kind = kind_of label k; sizes = s; below = table_at (level + 1) (mid g.from g.to paths) } in
    ap (one Label) (sums_table (level + 1) (mid g.from g.to paths) ∙ sym group.sizes) ∙ ap (λ (k : Kind). one k g.sizes) (sym group.kind)

-- The entries of one more group.
pub gather : (o : RowOptions) (level : ℕ) (paths : List GrowthPath) (groups : List Group) (g : Group) → IsGroup o paths g → IsRun level paths g.from g.to
    → map (group_entry level paths) groups ++ filter (is_child o) (map label_entry (runs (table_at level (drop g.from paths)))) ≡ filter (is_child o) (map label_entry (runs (table_at level paths)))
    → map (group_entry level paths) (groups ++ cond (has_changed o g.sizes) (g ∷ []) []) ++ filter (is_child o) (map label_entry (runs (table_at level (drop g.to paths))))
    ≡ filter (is_child o) (map label_entry (runs (table_at level paths)))
gather o level paths groups g group run so-far =
    let f = group_entry level paths in
    let rest : List Entry = map label_entry (runs (table_at level (drop g.to paths))) in
    let u : Under = record { label = get_or (labels_at level paths) g.from []; below = table_at (level + 1) (mid g.from g.to paths) } in
    let e : map label_entry (runs (table_at level (drop g.from paths))) ≡ f g ∷ rest =
    ap (map label_entry) (run-front level paths g.from g.to group.some group.within run) ∙ ap (λ (x : Entry). x ∷ rest) (group-is o level paths g group) in
    one-more f groups g (filter (is_child o) rest) (has_changed o g.sizes) ∙ (sym (ap (λ es. map f groups ++ filter (is_child o) es) e) ∙ so-far)

-- Past the last path there are no entries.
pub none-left : (o : RowOptions) (level : ℕ) (paths : List GrowthPath) (from : ℕ) (es : List Entry) → length paths ≤ from → es ++ filter (is_child o) (map label_entry (runs (table_at level (drop from paths)))) ≡ es
none-left o level paths from es le = ap (λ us. es ++ filter (is_child o) (map label_entry us)) (runs-end level paths from le) ∙ append-nil es

-- Groups that end before another begins.
rise-push : (groups : List Group) (g : Group) → All (λ (h : Group). h.from < g.from) groups → Rise groups → Rise (groups ++ g ∷ [])
rise-push [] g before rise = (tt, tt)
rise-push (h ∷ groups) g before rise =
    let P : Group → Type 0 = λ k. k.from < g.from in
    (more h groups (All-head P h groups before) rise.0, rise-push groups g (All-tail P h groups before) rise.1)
  where
    more : (h : Group) (gs : List Group) → h.from < g.from → AllByRecursion (λ (k : Group). h.from < k.from) gs → AllByRecursion (λ (k : Group). h.from < k.from) (gs ++ g ∷ [])
    more h [] lt rest = (lt, tt)
    more h (k ∷ gs) lt rest = (rest.0, more h gs lt rest.1)

pub rise-kept : (groups : List Group) (g : Group) (b : Bool) → All (λ (h : Group). h.from < g.from) groups → Rise groups → Rise (groups ++ cond b (g ∷ []) [])
rise-kept groups g true before rise = rise-push groups g before rise
rise-kept groups g false before rise = rw append-nil rise

-- Groups that end at or before a position begin before it.
pub begin-before : (o : RowOptions) (paths : List GrowthPath) (groups : List Group) (at : ℕ) → All (IsGroup o paths) groups → All (λ (h : Group). h.to ≤ at) groups → All (λ (h : Group). h.from < at) groups
begin-before o paths groups at every before k d lt = let some = (every k d lt).some in omega (arith, some, before k d lt)

pub end-before : (groups : List Group) (low high : ℕ) → low ≤ high → All (λ (h : Group). h.to ≤ low) groups → All (λ (h : Group). h.to ≤ high) groups
end-before groups low high le before k d lt = omega (arith, before k d lt)
