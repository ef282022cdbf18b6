-- Sorted groups represent sorted entries.
use Rattle.std.proofs.Common.{◌≡◌, ℕ, ◌<◌, List, [], ◌∷◌, get_or, map, refl, sym, ap, ◌∙◌}
use Rattle.std.specs.Prelude.{All, filter}
use Rattle.std.specs.declared.cmp.Ordering.{Ordering}
use Rattle.std.specs.declared.cmp.Ordering.TheVariants.{Less, Equal, Greater}
use Rattle.std.specs.Ordering.{is_lt, nat_cmp, ordering_then}
use Rattle.std.specs.List.Sorted.{IsPermutation, IsSorted}
use Rattle.std.proofs.lemmas.List.Elements.{All-head, All-tail, All-from_recursion}
use Rattle.path_rows.proofs.Paths.{nat_greater, same_number}
use Rattle.report_rows.specs.contracts.groups.KindOrd.TheImpl as kind_ord
use Rattle.report_rows.specs.declared.groups.Kind.{Kind}
use Rattle.report_rows.specs.declared.groups.Kind.TheVariants.{Label, Others}
use Rattle.report_rows.specs.declared.row.RowOptions.{RowOptions}
use Rattle.report_rows.specs.Order.{placed, in_order}
use Rattle.report_rows.proofs.AscendLemmas.{then-equal}
use Rattle.report_rows.proofs.LimitLemmas.{map-placed}
use Rattle.report_rows.proofs.OrderLemmas.{in_order_is, All-in_order}
use Rattle.size_growth.specs.contracts.groups.GroupOrd.TheImpl as group_ord
use Rattle.size_growth.specs.contracts.groups.GroupOrd.TheImpl.Laws.{total-law}
use Rattle.size_growth.specs.declared.groups.Group.{Group}
use Rattle.size_growth.specs.declared.growth.GrowthPath.{GrowthPath}
use Rattle.size_growth.specs.declared.growth.GrowthSizes.{GrowthSizes}
use Rattle.size_growth.specs.Groups.{HasKey, IsGroup, Rise, group_entry}
use Rattle.size_growth.specs.Keys.{growth_key}
use Rattle.size_growth.specs.Rows.{Entry, by_key, children, is_child, label_entry}
use Rattle.size_growth.specs.Runs.{runs, table_at}
use Rattle.size_growth.proofs.SumLemmas.{same_sizes}

-- The order of groups: the larger key, then the earlier position, then the other fields.
abbrev sizes_cmp : GrowthSizes → GrowthSizes → Ordering
sizes_cmp a b = ordering_then (nat_cmp a.new_vm b.new_vm) (ordering_then (nat_cmp a.new_file b.new_file) (ordering_then (nat_cmp a.base_vm b.base_vm) (nat_cmp a.base_file b.base_file)))

abbrev kind_cmp : Kind → Kind → Ordering
kind_cmp a b = kind_ord.ghosts.cmp a b

abbrev pub group_cmp : Group → Group → Ordering
group_cmp a b =
    ordering_then (nat_cmp b.key.0 a.key.0) (ordering_then (nat_cmp a.from b.from) (ordering_then (nat_cmp a.to b.to) (ordering_then (kind_cmp a.kind b.kind) (sizes_cmp a.sizes b.sizes))))

kind_is : (a b : Kind) → kind_cmp a b ≡ Equal → a ≡ b
kind_is Label Label e = refl
kind_is Label (Others m) e = cc e
kind_is (Others n) Label e = cc e
kind_is (Others n) (Others m) e = ap (λ k. Others k) (same_number n m e)

sizes_is : (s t : GrowthSizes) → sizes_cmp s t ≡ Equal → s ≡ t
sizes_is s t e =
    let a = then-equal (nat_cmp s.new_vm t.new_vm) _ e in
    let b = then-equal (nat_cmp s.new_file t.new_file) _ a.1 in
    let c = then-equal (nat_cmp s.base_vm t.base_vm) _ b.1 in
    same_sizes s t (same_number _ _ a.0) (same_number _ _ b.0) (same_number _ _ c.0) (same_number _ _ c.1)

same-group : (k j f g t u : ℕ) (p q : Kind) (s r : GrowthSizes) → k ≡ j → f ≡ g → t ≡ u → p ≡ q → s ≡ r
    → ◌≡◌ {A = Group} (record { key = record { 0 = k }; from = f; to = t; kind = p; sizes = s }) (record { key = record { 0 = j }; from = g; to = u; kind = q; sizes = r })
same-group k j f g t u p q s r a b c d e = rw (a, b, c, d, e) refl

group_is : (a b : Group) → group_cmp a b ≡ Equal → a ≡ b
group_is a b e =
    let k = then-equal (nat_cmp b.key.0 a.key.0) _ e in
    let f = then-equal (nat_cmp a.from b.from) _ k.1 in
    let t = then-equal (nat_cmp a.to b.to) _ f.1 in
    let l = then-equal (kind_cmp a.kind b.kind) _ t.1 in
    same-group a.key.0 b.key.0 a.from b.from a.to b.to a.kind b.kind a.sizes b.sizes (sym (same_number _ _ k.0)) (same_number _ _ f.0) (same_number _ _ t.0) (kind_is a.kind b.kind l.0) (sizes_is a.sizes b.sizes l.1)

then-greater : (r s t : Ordering) → s ≡ Greater → is_lt (ordering_then r (ordering_then s t)) ≡ is_lt r
then-greater Less s t e = refl
then-greater Equal s t e = rw e refl
then-greater Greater s t e = refl

module _ (o : RowOptions) (f : Group → Entry) (says : (g : Group) → (f g).sizes ≡ g.sizes) where
  key-is : (g : Group) → HasKey o g → g.key.0 ≡ growth_key o (f g).sizes
  key-is g has = has ∙ ap (growth_key o) (sym (says g))

  -- A later group comes before another if its key is larger.
  tells : (g h : Group) → HasKey o g → HasKey o h → g.from < h.from → is_lt (group_cmp h g) ≡ is_lt (by_key o (f h) (f g))
  tells g h kg kh lt =
      then-greater (nat_cmp g.key.0 h.key.0) (nat_cmp h.from g.from) (ordering_then (nat_cmp h.to g.to) (ordering_then (kind_cmp h.kind g.kind) (sizes_cmp h.sizes g.sizes))) (nat_greater h.from g.from lt)
      ∙ (ap (λ n. is_lt (nat_cmp n h.key.0)) (key-is g kg) ∙ ap (λ n. is_lt (nat_cmp (growth_key o (f g).sizes) n)) (key-is h kh))

  order-map : (groups : List Group) → All (HasKey o) groups → Rise groups → map f (in_order group_cmp groups) ≡ in_order (by_key o) (map f groups)
  unfolding in_order
  order-map [] keys rise = refl
  order-map (g ∷ groups) keys rise =
      let K : Group → Type 0 = HasKey o in
      let B : Group → Type 0 = λ k. g.from < k.from in
      let hs = in_order group_cmp groups in
      let own = All-head K g groups keys in
      let have = All-in_order group_cmp K groups (All-tail K g groups keys) in
      let behind = All-in_order group_cmp B groups (All-from_recursion B groups rise.0) in
      map-placed group_cmp (by_key o) f g hs (λ k d lt. tells g (get_or hs k d) own (have k d lt) (behind k d lt))
      ∙ ap (placed (by_key o) (f g)) (order-map groups (All-tail K g groups keys) rise.1)

  -- Groups that were sorted represent the sorted entries.
  pub sorted-entries : (given sorted : List Group) → IsPermutation given sorted → IsSorted (λ x y. group_ord.ghosts.cmp x y) sorted → All (HasKey o) given → Rise given
      → map f sorted ≡ in_order (by_key o) (map f given)
  sorted-entries given sorted same order keys rise = ap (map f) (in_order_is group_cmp total-law group_is given sorted same order) ∙ order-map given keys rise

-- Sorted groups are the children.
pub sorted-children : (o : RowOptions) (level : ℕ) (paths : List GrowthPath) (given sorted : List Group) → IsPermutation given sorted → IsSorted (λ x y. group_ord.ghosts.cmp x y) sorted → All (IsGroup o paths) given → Rise given
    → map (group_entry level paths) given ≡ filter (is_child o) (map label_entry (runs (table_at level paths))) → map (group_entry level paths) sorted ≡ children o (table_at level paths)
unfolding children
sorted-children o level paths given sorted same order every rise entries =
    sorted-entries o (group_entry level paths) (λ g. refl) given sorted same order (λ k d lt. (every k d lt).key) rise ∙ ap (in_order (by_key o)) entries
