-- An index of a table of abbreviations, attribute by attribute and declaration by declaration.
use Rattle.std.proofs.Common.{◌≡◌, ℕ, ◌==◌, Bool, true, false, List, [], ◌∷◌, ◌++◌, Option, Some, None, refl, sym, ap, subst, ◌∙◌, eqb-true}
use Rattle.std.specs.Prelude.{if◌then◌else◌}
use Rattle.std.specs.BTreeMap.{BTreeMap, Updates, get}
use Rattle.std.specs.Cmp.{unsigned_tied}
use Rattle.std.specs.Global.{Vec}
use Rattle.std.specs.Option.{is_some, option_map}
use Rattle.std.specs.Ordering.{nat_cmp}
use Rattle.std.proofs.lemmas.List.{append-nil}
use Rattle.dwarf_abbrev.specs.declared.spec.Spec.{Spec}
use Rattle.dwarf_abbrev.specs.Declarations.{Declaration, declared}
use Rattle.dwarf_units.specs.Filling.{AreRootsOf, GiveSameRoots, IsIndexOf, filled_from, specs_at}
use Rattle.dwarf_claims.specs.Indexes.{GiveTheSame, HasEntry, IsFilled, IsFound}

-- all attributes of a declaration
pub same_goes : (s : Spec) (old new xs ys all : List Spec) → GiveTheSame old s new → ys ≡ s ∷ xs → GiveSameRoots (old ++ ys) all → GiveSameRoots (new ++ xs) all
same_goes s old new xs ys all added is same = λ shape w r within.
    added xs shape w r within ∙ sym (ap (λ (zs : List Spec). filled_from shape (old ++ zs) w r) is) ∙ same shape w r within

pub same_ends : (specs xs all : List Spec) → xs ≡ [] → GiveSameRoots (specs ++ xs) all → GiveSameRoots specs all
same_ends specs xs all none same = λ shape w r within.
    ap (λ (zs : List Spec). filled_from shape zs w r) (sym (append-nil specs) ∙ sym (ap (λ (zs : List Spec). specs ++ zs) none)) ∙ same shape w r within

-- all declarations of a table
pub filled_goes : (d : Declaration) (old new : ℕ → Option (List Spec)) (all xs ys : List Declaration) → HasEntry d old new → ys ≡ d ∷ xs → IsFilled all ys old → IsFilled all xs new
filled_goes d old new all xs ys entry is filled = entry all xs (subst (λ (zs : List Declaration). IsFilled all zs old) is filled)

pub filled_ends : (all xs : List Declaration) (index : BTreeMap ℕ (Vec Spec)) → xs ≡ [] → IsFilled all xs (specs_at index) → IsIndexOf all index
filled_ends all xs index none filled = λ code. by_entry (specs_at index code) (declared all code) (subst (λ (zs : List Declaration). IsFilled all zs (specs_at index)) none filled code)
  where
    by_entry : (specs : Option (List Spec)) (d : Option Declaration) → IsFound specs d None → AreRootsOf d specs
    by_entry None d e = subst (λ (x : Option Declaration). AreRootsOf x None) (sym e) tt
    by_entry (Some specs) d e = e

-- a declaration whose code has one already
found_any : (o : Option (List Spec)) (whole rest other : Option Declaration) → is_some o ≡ true → IsFound o whole other → IsFound o whole rest
found_any None whole rest other some found = cc
found_any (Some specs) whole rest other some found = found

pub entry_known : (d : Declaration) (index : ℕ → Option (List Spec)) → is_some (index d.code) ≡ true → HasEntry d index index
entry_known d index known = λ all rest filled code. by_code all rest code (d.code == code) refl (filled code)
  where
    by_code : (all rest : List Declaration) (code : ℕ) (b : Bool) → (d.code == code) ≡ b → IsFound (index code) (declared all code) (if b then Some d else declared rest code) → IsFound (index code) (declared all code) (declared rest code)
    by_code all rest code false other found = found
    by_code all rest code true same found = found_any (index code) (declared all code) (declared rest code) (Some d) (rw (eqb-true d.code code same) at known) found

-- a declaration of a new code
pub entry_new : (d : Declaration) (old new : BTreeMap ℕ (Vec Spec)) (specs : Vec Spec) → is_some (get nat_cmp old d.code) ≡ false → GiveSameRoots specs.items d.specs → Updates nat_cmp old new d.code (Some specs)
    → HasEntry d (specs_at old) (specs_at new)
entry_new d old new specs fresh same updates = λ all rest filled code. by_code all rest code (d.code == code) refl (filled code)
  where
    by_old : (whole : Option Declaration) (o : Option (Vec Spec)) → is_some o ≡ false → IsFound (option_map (λ v. v.items) o) whole (Some d) → AreRootsOf whole (Some specs.items)
    by_old whole None none found = rw found same
    by_old whole (Some v) none found = cc

    by_code : (all rest : List Declaration) (code : ℕ) (b : Bool) → (d.code == code) ≡ b → IsFound (specs_at old code) (declared all code) (if b then Some d else declared rest code)
        → IsFound (specs_at new code) (declared all code) (declared rest code)
    by_code all rest code true is found =
        let got : get nat_cmp new code ≡ Some specs = rw (unsigned_tied d.code code ∙ is) at (updates.0 code) in
        let here : is_some (get nat_cmp old code) ≡ false = rw (eqb-true d.code code is) at fresh in
        rw got (by_old (declared all code) (get nat_cmp old code) here found)
    by_code all rest code false is found = let got : get nat_cmp new code ≡ get nat_cmp old code = rw (unsigned_tied d.code code ∙ is) at (updates.0 code) in rw got found
