-- A table is read declaration by declaration, and a declaration attribute by attribute.
use Rattle.std.specs.Prelude.{◌≡◌, [], ◌∷◌, Option, Some, None, Result, Ok, Err}
use Rattle.size_core.specs.declared.fault.BadFile.{BadFile}
use Rattle.byte_cursor.specs.Window.{Window}
use Rattle.dwarf_abbrev.specs.declared.spec.Spec.{Spec}
use Rattle.dwarf_abbrev.specs.Listing.{Listing}
use Rattle.dwarf_abbrev.specs.Declarations.{Declaration, spec_from, specs_from, declaration_from, declarations_from}

-- The list in a window is its first record and then the list in the rest of the window. An end mark and a fault
-- end it.
pub record OneAfterAnother (X : Type 0) (read : Window → Result (Option X × Window) BadFile) (all : Window → Listing X) : Type 0 where
  pub more : (w next : Window) (i : X) → read w ≡ Ok (Some i, next) → all w ≡ record { items = i ∷ (all next).items; end = (all next).end }
  pub done : (w next : Window) → read w ≡ Ok (None, next) → all w ≡ record { items = []; end = Ok next }
  pub fault : (w : Window) (e : BadFile) → read w ≡ Err e → all w ≡ record { items = []; end = Err e }

-- Attributes are read one after another. This is the contract of `one_after_another`.
abbrev pub SpecsFollow : Type 0
SpecsFollow = OneAfterAnother Spec spec_from specs_from

-- Declarations are read one after another. This is the contract of `one_after_another`.
abbrev pub DeclarationsFollow : Type 0
DeclarationsFollow = OneAfterAnother Declaration declaration_from declarations_from
