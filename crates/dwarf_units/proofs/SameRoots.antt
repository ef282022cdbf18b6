-- An attribute whose values take no bytes and change nothing in a root can be left out.
use Rattle.std.proofs.Common.{◌≡◌, ◌≤◌, ℕ, ◌==◌, Bool, true, false, List, [], ◌∷◌, ◌++◌, length, Some, None, Result, Ok, Err, refl, sym, ap, subst, ◌∙◌, eqb-true}
use Rattle.std.specs.Prelude.{◌||◌, if◌then◌else◌}
use Rattle.std.specs.List.{list_any}
use Rattle.size_core.specs.declared.fault.BadFile.{BadFile}
use Rattle.byte_cursor.specs.Window.{Window}
use Rattle.dwarf_abbrev.specs.declared.shape.UnitShape.{UnitShape}
use Rattle.dwarf_abbrev.specs.declared.spec.Spec.{Spec}
use Rattle.dwarf_abbrev.specs.Values.{TakesNoBytes, ValueRecord, value_from}
use Rattle.dwarf_abbrev.proofs.Within.{value_within}
use Rattle.dwarf_units.specs.declared.constants.TheConstants.{DW_AT_NAME, DW_AT_STMT_LIST, DW_AT_LOW_PC, DW_AT_HIGH_PC, DW_AT_RANGES, DW_AT_STR_OFFSETS_BASE, DW_AT_ADDR_BASE, DW_AT_RNGLISTS_BASE}
use Rattle.dwarf_units.specs.Filling.{GiveSameRoots, IsUnread, earlier_value, filled_from, slot, with_value}
use Rattle.dwarf_units.specs.Roots.{RootRecord}
use Rattle.dwarf_units.proofs.RootLemmas.{V, filled_bad, filled_more, same_values, with_values}

-- A value of the attribute changes nothing in this root.
abbrev Settled : ℕ → RootRecord → Type 0
Settled attribute r = (v : ValueRecord) → with_value attribute v r ≡ r

-- A second value of an attribute changes nothing.
slot_again : (wanted attribute : ℕ) (old : V) (v u : ValueRecord) → slot wanted attribute (slot wanted attribute old v) u ≡ slot wanted attribute old v
slot_again wanted attribute None v u = by_test (attribute == wanted)
  where
    by_test : (b : Bool) → (if b then earlier_value (if b then Some v else None) u else (if b then Some v else None)) ≡ (if b then Some v else None)
    by_test true = refl
    by_test false = refl
slot_again wanted attribute (Some first) v u = by_test (attribute == wanted)
  where
    by_test : (b : Bool) → (if b then earlier_value (if b then Some first else Some first) u else (if b then Some first else Some first)) ≡ (if b then Some first else Some first)
    by_test true = refl
    by_test false = refl

settled_again : (attribute : ℕ) (v : ValueRecord) (r : RootRecord) → Settled attribute (with_value attribute v r)
unfolding with_values
settled_again a v r u = same_values r _ _ _ _ _ _ _ _ _ _ _ _ _ _ _ _
    (slot_again DW_AT_NAME a r.name v u) (slot_again DW_AT_LOW_PC a r.low v u) (slot_again DW_AT_HIGH_PC a r.high v u) (slot_again DW_AT_RANGES a r.ranges v u)
    (slot_again DW_AT_STMT_LIST a r.lines v u) (slot_again DW_AT_STR_OFFSETS_BASE a r.str_base v u) (slot_again DW_AT_ADDR_BASE a r.addr_base v u) (slot_again DW_AT_RNGLISTS_BASE a r.list_base v u)

-- What changes nothing in a root changes nothing after one more value.
slot_later : (wanted a b : ℕ) (old : V) (v u : ValueRecord) → ((x : ValueRecord) → slot wanted a old x ≡ old) → slot wanted a (slot wanted b old v) u ≡ slot wanted b old v
slot_later wanted a b None v u settled = by_test (a == wanted) (b == wanted) (settled u)
  where
    by_test : (t s : Bool) → (if t then Some u else None) ≡ None → (if t then earlier_value (if s then Some v else None) u else (if s then Some v else None)) ≡ (if s then Some v else None)
    by_test true s e = cc
    by_test false s e = refl
slot_later wanted a b (Some first) v u settled = by_test (a == wanted) (b == wanted)
  where
    by_test : (t s : Bool) → (if t then earlier_value (if s then Some first else Some first) u else (if s then Some first else Some first)) ≡ (if s then Some first else Some first)
    by_test true true = refl
    by_test true false = refl
    by_test false s = refl

settled_later : (a b : ℕ) (v : ValueRecord) (r : RootRecord) → Settled a r → Settled a (with_value b v r)
unfolding with_values
settled_later a b v r settled u = same_values r _ _ _ _ _ _ _ _ _ _ _ _ _ _ _ _
    (slot_later DW_AT_NAME a b r.name v u (λ x. ap (λ (z : RootRecord). z.name) (settled x))) (slot_later DW_AT_LOW_PC a b r.low v u (λ x. ap (λ (z : RootRecord). z.low) (settled x)))
    (slot_later DW_AT_HIGH_PC a b r.high v u (λ x. ap (λ (z : RootRecord). z.high) (settled x))) (slot_later DW_AT_RANGES a b r.ranges v u (λ x. ap (λ (z : RootRecord). z.ranges) (settled x)))
    (slot_later DW_AT_STMT_LIST a b r.lines v u (λ x. ap (λ (z : RootRecord). z.lines) (settled x))) (slot_later DW_AT_STR_OFFSETS_BASE a b r.str_base v u (λ x. ap (λ (z : RootRecord). z.str_base) (settled x)))
    (slot_later DW_AT_ADDR_BASE a b r.addr_base v u (λ x. ap (λ (z : RootRecord). z.addr_base) (settled x))) (slot_later DW_AT_RNGLISTS_BASE a b r.list_base v u (λ x. ap (λ (z : RootRecord). z.list_base) (settled x)))

-- A value of the attribute changes nothing in this root after values of the attributes ks.
Covered : ℕ → List Spec → RootRecord → Type 0
Covered a [] r = Settled a r
Covered a (k ∷ ks) r = (v : ValueRecord) → Covered a ks (with_value k.attribute v r)

covered_settled : (a : ℕ) (ks : List Spec) (r : RootRecord) → Settled a r → Covered a ks r
unfolding Covered
covered_settled a [] r settled = settled
covered_settled a (k ∷ ks) r settled = λ v. covered_settled a ks (with_value k.attribute v r) (settled_later a k.attribute v r settled)

-- Whether one of these attributes has this number.
abbrev pub has : ℕ → List Spec → Bool
has a ks = list_any (λ k. k.attribute == a) ks

covered_has : (a : ℕ) (ks : List Spec) (r : RootRecord) → has a ks ≡ true → Covered a ks r
unfolding Covered
covered_has a [] r e = cc
covered_has a (k ∷ ks) r e = λ v. by_test v (k.attribute == a) refl e (λ any. covered_has a ks (with_value k.attribute v r) any)
  where
    by_test : (v : ValueRecord) (b : Bool) → (k.attribute == a) ≡ b → (b || has a ks) ≡ true → (has a ks ≡ true → Covered a ks (with_value k.attribute v r)) → Covered a ks (with_value k.attribute v r)
    by_test v true same any later =
        let is : k.attribute ≡ a = eqb-true k.attribute a same in
        covered_settled a ks (with_value k.attribute v r) (subst (λ (n : ℕ). Settled n (with_value k.attribute v r)) is (settled_again k.attribute v r))
    by_test v false other any later = later any

-- An attribute that takes no bytes and is covered by those before it.
without : (s : Spec) → TakesNoBytes s → (ks ss : List Spec) (shape : UnitShape) (w : Window) (r : RootRecord) → w.at ≤ length w.bytes → Covered s.attribute ks r
    → filled_from shape (ks ++ ss) w r ≡ filled_from shape (ks ++ s ∷ ss) w r
unfolding Covered
without s bare [] ss shape w r within covered =
    let read = bare shape w within in
    sym (filled_more shape s ss w w read.0 r read.1 ∙ ap (λ (x : RootRecord). filled_from shape ss w x) (covered read.0))
without s bare (k ∷ ks) ss shape w r within covered = by_value (λ next v. without s bare ks ss shape next (with_value k.attribute v r)) (value_from shape k w) refl
  where
    by_value : ((next : Window) (v : ValueRecord) → next.at ≤ length next.bytes → Covered s.attribute ks (with_value k.attribute v r) → filled_from shape (ks ++ ss) next (with_value k.attribute v r) ≡ filled_from shape (ks ++ s ∷ ss) next (with_value k.attribute v r))
        → (value : Result (ValueRecord × Window) BadFile) → value_from shape k w ≡ value → filled_from shape (k ∷ ks ++ ss) w r ≡ filled_from shape (k ∷ ks ++ s ∷ ss) w r
    by_value rest (Err e) is = filled_bad shape k (ks ++ ss) w e r is ∙ sym (filled_bad shape k (ks ++ s ∷ ss) w e r is)
    by_value rest (Ok (v, next)) is =
        filled_more shape k (ks ++ ss) w next v r is
        ∙ rest next v (value_within shape k w next v within is) (covered v)
        ∙ sym (filled_more shape k (ks ++ s ∷ ss) w next v r is)

-- So an attribute without bytes may be left out if no root has a value of it, or if it comes again.
pub without_unread : (s : Spec) (ks ss : List Spec) → TakesNoBytes s → IsUnread s.attribute → GiveSameRoots (ks ++ ss) (ks ++ s ∷ ss)
without_unread s ks ss bare unread shape w r within = without s bare ks ss shape w r within (covered_settled s.attribute ks r (λ v. unread v r))

pub without_again : (s : Spec) (ks ss : List Spec) → TakesNoBytes s → has s.attribute ks ≡ true → GiveSameRoots (ks ++ ss) (ks ++ s ∷ ss)
without_again s ks ss bare again shape w r within = without s bare ks ss shape w r within (covered_has s.attribute ks r again)
