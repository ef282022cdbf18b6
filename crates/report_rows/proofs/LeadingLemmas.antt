-- Groups that come first, kept one by one.
use Rattle.std.proofs.Common.{◌≡◌, ℕ, ◌+◌, ◌<◌, ◌≤◌, ◌^◌, List, [], ◌∷◌, ◌++◌, length, get_or, drop, map, Some, refl, sym, ap, ◌∙◌, subst, Bool, true, false, cond, append_assoc, arith, inl, inr}
use Rattle.std.specs.Prelude.{All, filter}
use Rattle.std.specs.List.{sum_by}
use Rattle.std.specs.List.Sorted.{IsPermutation}
use Rattle.std.specs.declared.cmp.Ordering.{Ordering}
use Rattle.std.specs.declared.cmp.Ordering.TheVariants.{Less, Equal, Greater}
use Rattle.std.specs.Cmp.{IsTotalOrder, nat_cmp_total, then_total, back_total, on_total}
use Rattle.std.specs.Ordering.{is_lt, is_le, is_gt, nat_cmp, ordering_then}
use Rattle.std.proofs.lemmas.Bool.{cases_lt}
use Rattle.std.proofs.lemmas.List.{append-nil, length-append, length_push, nil_from_length}
use Rattle.std.proofs.lemmas.List.Elements.{All-cons, All-nil, All-pop, All-push, All-weaker}
use Rattle.std.proofs.lemmas.List.Sorted.{All-permutation, IsPermutation-append_left, IsPermutation-middle, IsPermutation-push_more, IsPermutation-refl, IsPermutation-sym, length_permutation, sum_by-IsPermutation}
use Rattle.std.proofs.lemmas.List.Sums.{get_or-le-sum_by, sum_by-append, sum_by-cons, sum_by_push}
use Rattle.path_rows.specs.declared.row.RollupRow.{RollupRow}
use Rattle.report_rows.specs.contracts.groups.GroupOrd.TheImpl as group_ord
use Rattle.report_rows.specs.declared.groups.Group.{Group}
use Rattle.report_rows.specs.declared.leading.LeftOut.{LeftOut}
use Rattle.report_rows.specs.declared.row.RowOptions.{RowOptions}
use Rattle.report_rows.specs.Groups.{AreFirst, IsGroup, IsPart, IsRange, group_cmp, group_entry, group_label, table_at}
use Rattle.report_rows.specs.Keys.{is_shown}
use Rattle.report_rows.specs.Leading.{CanAdd, Inserts, Leads, WithOthers, one_group, sums_of, with_group}
use Rattle.report_rows.specs.Order.{placed}
use Rattle.report_rows.specs.Rows.{entries_of, has_shown}
use Rattle.report_rows.specs.Tables.{Table, first_labels}
use Rattle.report_rows.proofs.EntryLemmas.{all-entries, have-ranges, some-fit}
use Rattle.report_rows.proofs.FirstLemmas.{first-entries, first-ranges}
use Rattle.report_rows.proofs.GatherLemmas.{All-kept, gather, none-left}
use Rattle.report_rows.proofs.InsertLemmas.{Ends, ends, front-sorted, none-after-last}
use Rattle.report_rows.proofs.OrderLemmas.{chain, turn}
use Rattle.report_rows.proofs.RunLemmas.{IsRun}
use Rattle.report_rows.proofs.SortLemmas.{sorted-children}

pub group-total : IsTotalOrder group_cmp
group-total =
    then_total {R = λ (g h : Group). nat_cmp h.key.0 g.key.0} {S = λ (g h : Group). nat_cmp g.from h.from} (on_total (λ (g : Group). g.key.0) (back_total nat_cmp_total)) (on_total (λ (g : Group). g.from) nat_cmp_total)

not-above : (a b q : Ordering) → is_le (ordering_then a (ordering_then b q)) ≡ true → is_gt (ordering_then a b) ≡ false
not-above Less b q e = refl
not-above Equal Less q e = refl
not-above Equal Equal q e = refl
not-above Equal Greater q e = cc e
not-above Greater b q e = cc e

not-below : (a b q : Ordering) → is_le (ordering_then a (ordering_then b q)) ≡ false → is_lt (ordering_then a b) ≡ false
not-below Less b q e = cc e
not-below Equal Less q e = cc e
not-below Equal Equal q e = refl
not-below Equal Greater q e = refl
not-below Greater b q e = refl

-- What the code's comparison means.
pub upto-in-order : (g h : Group) (o : Ordering) → o ≡ group_ord.ghosts.cmp g h → is_le o ≡ true → is_lt (group_cmp h g) ≡ false
upto-in-order g h o is e = turn group_cmp group-total h g ∙ not-above (nat_cmp h.key.0 g.key.0) (nat_cmp g.from h.from) _ (ap is_le (sym is) ∙ e)

pub above-in-order : (g h : Group) (o : Ordering) → o ≡ group_ord.ghosts.cmp g h → is_le o ≡ false → is_lt (group_cmp g h) ≡ false
above-in-order g h o is e = not-below (nat_cmp h.key.0 g.key.0) (nat_cmp g.from h.from) _ (ap is_le (sym is) ∙ e)

same-sums : (n m v w f h : ℕ) → n ≡ m → v ≡ w → f ≡ h → ◌≡◌ {A = LeftOut} (record { count = n; vm = v; file = f }) (record { count = m; vm = w; file = h })
same-sums n m v w f h a b e = rw (a, b, e) refl

sums-cons : (others : List Group) (g : Group) → with_group (sums_of others) g ≡ sums_of (g ∷ others)
sums-cons others g =
    let sums : (f : Group → ℕ) → sum_by f others + f g ≡ sum_by f (g ∷ others) = λ f. omega (arith, sum_by-cons f g others) in
    same-sums (length others + 1) (length (g ∷ others)) (sum_by (λ (h : Group). h.vm) others + g.vm) (sum_by (λ (h : Group). h.vm) (g ∷ others))
    (sum_by (λ (h : Group). h.file) others + g.file) (sum_by (λ (h : Group). h.file) (g ∷ others)) (omega arith) (sums (λ h. h.vm)) (sums (λ h. h.file))

-- One more group is added.
added : (groups kept others new : List Group) (g : Group) → IsPermutation groups (kept ++ others) → IsPermutation (g ∷ kept) new → IsPermutation (groups ++ g ∷ []) (new ++ others)
added groups kept others new g so-far more = IsPermutation-push_more groups (kept ++ others) (new ++ others) g so-far (IsPermutation-append_left others (g ∷ kept) new more)

pub leads-none : (limit : ℕ) (kept : List Group) → kept ≡ [] → Leads limit [] kept (sums_of [])
leads-none limit kept none =
    subst (λ (ks : List Group). Leads limit [] ks (sums_of [])) (sym none) (record {
      others = [];
      same = IsPermutation-refl [];
      ordered = λ k d low high. absurd (omega arith);
      after = λ k d lt. absurd (omega arith);
      most = omega arith;
      full = λ some. absurd (omega arith);
      sums = refl;
    })

module _ (limit : ℕ) (groups : List Group) (left : LeftOut) (g : Group) where
  -- The group is kept.
  pub kept-more : (kept new : List Group) → length kept < limit → Inserts g kept new → Leads limit groups kept left → Leads limit (groups ++ g ∷ []) new left
  kept-more kept new few ins l =
      let long : length new ≡ length kept + 1 = omega (arith, length_permutation (g ∷ kept) new ins.same) in
      record {
        others = l.others;
        same = added groups kept l.others new g l.same ins.same;
        ordered = ins.ordered l.ordered;
        after = λ k d lt. absurd (let e : length kept ≡ limit = l.full (omega arith) in omega arith);
        most = omega arith;
        full = λ some. absurd (let e : length kept ≡ limit = l.full some in omega arith);
        sums = l.sums;
      }

  abbrev UptoAll : List Group → Group → Type 0
  UptoAll hs a = All (λ h. is_lt (group_cmp a h) ≡ false) hs

  module _ (kept front : List Group) (last : Group) (are : kept ≡ front ++ last ∷ []) (enough : limit ≤ length kept) (l : Leads limit groups kept left) where
    whole : Leads limit groups (front ++ last ∷ []) left
    whole = subst (λ (ks : List Group). Leads limit groups ks left) are l

    full-is : length (front ++ last ∷ []) ≡ limit
    full-is = omega (arith, ap length are, l.most)

    -- The group is left out.
    pub group-left : is_lt (group_cmp g last) ≡ false → Leads limit (groups ++ g ∷ []) kept (with_group left g)
    group-left after =
        subst (λ (ks : List Group). Leads limit (groups ++ g ∷ []) ks (with_group left g)) (sym are) (record {
          others = g ∷ whole.others;
          same = IsPermutation-push_more groups ((front ++ last ∷ []) ++ whole.others) ((front ++ last ∷ []) ++ g ∷ whole.others) g whole.same
              (IsPermutation-sym ((front ++ last ∷ []) ++ g ∷ whole.others) (g ∷ ((front ++ last ∷ []) ++ whole.others)) (IsPermutation-middle (front ++ last ∷ []) g whole.others));
          ordered = whole.ordered;
          after = All-cons (UptoAll (front ++ last ∷ [])) g whole.others
              (All-push (λ h. is_lt (group_cmp g h) ≡ false) front last (λ k d lt. chain group_cmp group-total (get_or front k d) last g (none-after-last group_cmp group-total front last whole.ordered k d lt) after) after)
              whole.after;
          most = whole.most;
          full = λ some. full-is;
          sums = ap (λ (x : LeftOut). with_group x g) whole.sums ∙ sums-cons whole.others g;
        })

    -- The last one is left out, and the group is kept.
    pub last-left : (new : List Group) → is_lt (group_cmp last g) ≡ false → Inserts g front new → Leads limit (groups ++ g ∷ []) new (with_group left last)
    last-left new after ins =
        let upto : (a : Group) → UptoAll (front ++ last ∷ []) a → UptoAll new a = λ a h.
        let P : Group → Type 0 = λ x. is_lt (group_cmp a x) ≡ false in
        let parts = All-pop P (front ++ last ∷ []) front (Some last) refl h in
        All-permutation P (g ∷ front) new ins.same (All-cons P g front (chain group_cmp group-total g last a after parts.1) parts.0) in
        let Q : Group → Type 0 = λ x. is_lt (group_cmp last x) ≡ false in
        let all : IsPermutation groups (front ++ last ∷ whole.others) = subst (IsPermutation groups) (append_assoc front (last ∷ []) whole.others) whole.same in
        let long : length new ≡ limit = omega (arith, length_permutation (g ∷ front) new ins.same, length_push front last, full-is) in
        record {
          others = last ∷ whole.others;
          same = added groups front (last ∷ whole.others) new g all ins.same;
          ordered = ins.ordered (front-sorted group_cmp front last whole.ordered);
          after = All-cons (UptoAll new) last whole.others
              (All-permutation Q (g ∷ front) new ins.same (All-cons Q g front after (none-after-last group_cmp group-total front last whole.ordered)))
              (All-weaker (UptoAll (front ++ last ∷ [])) (UptoAll new) upto whole.others whole.after);
          most = omega arith;
          full = λ some. long;
          sums = ap (λ (x : LeftOut). with_group x last) whole.sums ∙ sums-cons whole.others last;
        }

-- A group is added only if it is shown.
pub shown-more : (limit : ℕ) (groups kept : List Group) (left : LeftOut) (g : Group) (b : Bool) → b ≡ true → Leads limit (groups ++ g ∷ []) kept left → Leads limit (groups ++ cond b (g ∷ []) []) kept left
shown-more limit groups kept left g true e l = l
shown-more limit groups kept left g false e l = cc e

pub not-shown : (limit : ℕ) (groups kept : List Group) (left : LeftOut) (g : Group) (b : Bool) → b ≡ false → Leads limit groups kept left → Leads limit (groups ++ cond b (g ∷ []) []) kept left
not-shown limit groups kept left g true e l = cc e
not-shown limit groups kept left g false e l = rw append-nil l

-- The groups of the rows before an index are added.
pub record Reads (o : RowOptions) (level : ℕ) (all : List RollupRow) (from : ℕ) (kept : List Group) (left : LeftOut) : Type 0 where
  pub groups : List Group
  pub leads : Leads o.limit groups kept left
  pub labels : map (group_label level all) groups ++ filter (has_shown o (table_at level all)) (first_labels (table_at level (drop from all)))
      ≡ filter (has_shown o (table_at level all)) (first_labels (table_at level all))
  pub every : All (IsGroup o level all) groups
  pub count : length groups ≤ from

pub reads-none : (o : RowOptions) (level : ℕ) (all : List RollupRow) (kept : List Group) (left : LeftOut) → Leads o.limit [] kept left → Reads o level all 0 kept left
reads-none o level all kept left l = record { groups = []; leads = l; labels = refl; every = All-nil (IsGroup o level all); count = omega arith }

at-most-one : (b : Bool) (g : Group) → length (cond b (g ∷ []) []) ≤ 1
at-most-one true g = omega arith
at-most-one false g = omega arith

-- The limit leaves out groups: those that are kept come first.
lead-first : (o : RowOptions) (groups front : List Group) (last : Group) (left : LeftOut) (made : List Group) → Leads o.limit groups (front ++ last ∷ []) left → 0 < left.count
    → made ≡ placed (λ (g h : Group). nat_cmp h.key.0 g.key.0) (one_group o left) (front ++ last ∷ []) → AreFirst o groups made
lead-first o groups front last left made l some are =
    let some-left : 0 < length l.others = omega (arith, ap (λ (x : LeftOut). x.count) l.sums) in
    let full : length (front ++ last ∷ []) ≡ o.limit = l.full some-left in
    record {
      front = front;
      last = last;
      left = l.others;
      count = omega (arith, length_push front last);
      same = subst (IsPermutation groups) (append_assoc front (last ∷ []) l.others) l.same;
      ordered = front-sorted group_cmp front last l.ordered;
      before = none-after-last group_cmp group-total front last l.ordered;
      after = λ k d lt. (All-pop (λ h. is_lt (group_cmp (get_or l.others k d) h) ≡ false) (front ++ last ∷ []) front (Some last) refl (l.after k d lt)).1;
      are = are ∙ ap (λ (x : LeftOut). placed (λ (g h : Group). nat_cmp h.key.0 g.key.0) (one_group o x) (front ++ last ∷ [])) l.sums;
    }

module _ (o : RowOptions) (depth level : ℕ) (all : List RollupRow) (part : IsPart depth level all) (below : level < depth) (from : ℕ) (kept : List Group) (left : LeftOut) (r : Reads o level all from kept left) where
  abbrev table : Table
  table = table_at level all

  abbrev lab : Group → List ℕ
  lab = group_label level all

  abbrev G : Group → Type 0
  G = IsGroup o level all

  module _ (g : Group) (group : G g) (run : IsRun level all (lab g) g.from g.to) (start : g.from ≡ from) where
    abbrev rest : List (List ℕ)
    rest = filter (has_shown o table) (first_labels (table_at level (drop g.to all)))

    more-labels : map lab (r.groups ++ cond (is_shown o g.vm g.file) (g ∷ []) []) ++ rest ≡ filter (has_shown o table) (first_labels table)
    more-labels = gather o depth level all r.groups g group run (rw start r.labels)

    pub reads-more : (kept2 : List Group) (left2 : LeftOut) → Leads o.limit (r.groups ++ cond (is_shown o g.vm g.file) (g ∷ []) []) kept2 left2 → Reads o level all g.to kept2 left2
    reads-more kept2 left2 l = record {
      groups = r.groups ++ cond (is_shown o g.vm g.file) (g ∷ []) [];
      leads = l;
      labels = more-labels;
      every = All-kept G r.groups g (is_shown o g.vm g.file) r.every group;
      count = omega (arith, length-append r.groups (cond (is_shown o g.vm g.file) (g ∷ []) []), at-most-one (is_shown o g.vm g.file) g, r.count, group.some, start);
    }

    -- The sums don't overflow.
    pub can-add : length all < 2 ^ 64 → is_shown o g.vm g.file ≡ true → All (CanAdd left) (g ∷ kept)
    can-add small shown =
        let labels : map lab (r.groups ++ g ∷ []) ++ rest ≡ filter (has_shown o table) (first_labels table) =
        subst (λ (b : Bool). map lab (r.groups ++ cond b (g ∷ []) []) ++ rest ≡ filter (has_shown o table) (first_labels table)) shown more-labels in
        let fits = some-fit o depth level all part below (r.groups ++ g ∷ []) rest (All-push G r.groups g r.every group) labels in
        let others = r.leads.others in
        let sums : (f : Group → ℕ) → sum_by f (g ∷ kept) + sum_by f others ≡ sum_by f (r.groups ++ g ∷ []) =
        λ f. omega (arith, sum_by-cons f g kept, sum_by_push f r.groups g, sum_by-IsPermutation f r.groups (kept ++ others) r.leads.same, sum_by-append f kept others) in
        λ k d lt. record {
          count_fits = omega (arith, ap (λ (x : LeftOut). x.count) r.leads.sums, length_permutation r.groups (kept ++ others) r.leads.same, length-append kept others, r.count, group.some, group.within, start);
          vm_fits = omega (arith, ap (λ (x : LeftOut). x.vm) r.leads.sums, sums (λ h. h.vm), get_or-le-sum_by (λ (h : Group). h.vm) (g ∷ kept) k d lt, fits.vm);
          file_fits = omega (arith, ap (λ (x : LeftOut). x.file) r.leads.sums, sums (λ h. h.file), get_or-le-sum_by (λ (h : Group). h.file) (g ∷ kept) k d lt, fits.file);
        }

  module _ (done : length all ≤ from) (some : 0 < o.limit) (made : List Group) (w : WithOthers o kept left made) where
    all-labels : map lab r.groups ≡ filter (has_shown o table) (first_labels table)
    all-labels = sym (none-left o level all table from (map lab r.groups) done) ∙ r.labels

    all-kept : left.count ≡ 0 → IsPermutation r.groups kept
    all-kept none =
        let no-others : r.leads.others ≡ [] = nil_from_length r.leads.others (omega (arith, ap (λ (x : LeftOut). x.count) r.leads.sums)) in
        subst (IsPermutation r.groups) (append-nil kept) (subst (λ (hs : List Group). IsPermutation r.groups (kept ++ hs)) no-others r.leads.same)

    kept-every : left.count ≡ 0 → All G kept
    kept-every none = All-permutation G r.groups kept (all-kept none) r.every

    left-some : 0 < left.count → 0 < length r.leads.others
    left-some more = omega (arith, ap (λ (x : LeftOut). x.count) r.leads.sums)

    first-of : 0 < left.count → AreFirst o r.groups made
    first-of more =
        let e : Ends kept = ends kept (omega (arith, r.leads.full (left-some more))) in
        lead-first o r.groups e.front e.last left made (subst (λ (ks : List Group). Leads o.limit r.groups ks left) e.is r.leads) more
        (w.some more ∙ ap (placed (λ (g h : Group). nat_cmp h.key.0 g.key.0) (one_group o left)) e.is)

    long : 0 < left.count → o.limit < length r.groups
    long more =
        omega (arith, left-some more, r.leads.full (left-some more), length_permutation r.groups (kept ++ r.leads.others) r.leads.same, length-append kept r.leads.others)

    -- What is made represents the entries of the level.
    pub made-entries : map (group_entry level all) made ≡ entries_of o table
    made-entries = elim (cases_lt 0 left.count) [
      | inl more ↦ first-entries o depth level all part below r.groups r.every all-labels made (first-of more) (long more)
      | inr few ↦
          (let none : left.count ≡ 0 = omega arith in
          ap (map (group_entry level all)) (w.none none)
          ∙ all-entries o depth level all part below kept (kept-every none)
          (sorted-children o depth level all part below r.groups kept (all-kept none) r.leads.ordered (kept-every none) all-labels) (λ _. r.leads.most))
    ]

    pub made-ranges : All (IsRange level all) made
    made-ranges = elim (cases_lt 0 left.count) [
      | inl more ↦ first-ranges o depth level all part below r.groups r.every all-labels made (first-of more)
      | inr few ↦ (let none : left.count ≡ 0 = omega arith in subst (All (IsRange level all)) (sym (w.none none)) (have-ranges o depth level all part below kept (kept-every none)))
    ]
