-- An index of a table of abbreviations while it is made.
use Rattle.std.specs.Prelude.{◌≡◌, ℕ, ◌==◌, true, List, ◌∷◌, ◌++◌, Option, None, Some}
use Rattle.std.specs.List.{list_any}
use Rattle.dwarf_abbrev.specs.declared.spec.Spec.{Spec}
use Rattle.dwarf_abbrev.specs.Declarations.{Declaration, declared}
use Rattle.dwarf_units.specs.Filling.{AreRootsOf, GiveSameRoots}
use Rattle.dwarf_claims.specs.declared.index.Needed.{Needed}

-- Each of these numbers is that of one of the attributes.
abbrev pub AreAmong : List ℕ → List Spec → Type 0
AreAmong numbers specs = (n : ℕ) → list_any (λ m. m == n) numbers ≡ true → list_any (λ s. s.attribute == n) specs ≡ true

-- The attributes `new` give the same roots as the attributes `old` and one more, whatever comes after them.
abbrev pub GiveTheSame : List Spec → Spec → List Spec → Type 0
GiveTheSame old spec new = (rest : List Spec) → GiveSameRoots (new ++ rest) (old ++ spec ∷ rest)

-- The attributes after one more attribute of a declaration, which is added unless it changes nothing. They give the same
-- roots as before with this attribute. The numbers are still those of attributes among them.
pub record TakesSpec (old new : Needed) (spec : Spec) : Type 0 where
  pub roots : GiveTheSame old.specs.items spec new.specs.items
  pub bare : AreAmong new.bare.items new.specs.items

-- What the index has for a code gives the same roots as the declaration of the whole table. If it has nothing, the
-- declaration is that of the rest of the table.
abbrev pub IsFound : Option (List Spec) → Option Declaration → Option Declaration → Type 0
IsFound None whole rest = whole ≡ rest
IsFound (Some specs) whole rest = AreRootsOf whole (Some specs)

-- An index of the declarations before the rest of a table.
abbrev pub IsFilled : List Declaration → List Declaration → (ℕ → Option (List Spec)) → Type 0
IsFilled all rest index = (code : ℕ) → IsFound (index code) (declared all code) (declared rest code)

-- The index `new` has the entries of the index `old` and one more declaration.
abbrev pub HasEntry : Declaration → (ℕ → Option (List Spec)) → (ℕ → Option (List Spec)) → Type 0
HasEntry d old new = (all rest : List Declaration) → IsFilled all (d ∷ rest) old → IsFilled all rest new
