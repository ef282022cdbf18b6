-- The attribute specifications of a declaration, one after another.
use Rattle.std.proofs.Common.{◌≡◌, ◌<◌, [], ◌∷◌, Some, None, Ok, Err}
use Rattle.size_core.specs.declared.fault.BadFile.{BadFile}
use Rattle.byte_cursor.specs.Window.{Window}
use Rattle.dwarf_abbrev.specs.declared.spec.Spec.{Spec}
use Rattle.dwarf_abbrev.specs.Listing.{left}
use Rattle.dwarf_abbrev.specs.Declarations.{spec_from, specs_from}
use Rattle.dwarf_abbrev.proofs.Listings.{listing_more, listing_done, listing_bad}
use Rattle.dwarf_abbrev.proofs.Forward.{spec_shortens}

pub specs_more : (w next : Window) (s : Spec) → spec_from w ≡ Ok (Some s, next) → specs_from w ≡ record { items = s ∷ (specs_from next).items; end = (specs_from next).end }
specs_more w next s is = listing_more spec_from spec_shortens w next s is

pub specs_less : (w next : Window) (s : Spec) → spec_from w ≡ Ok (Some s, next) → left next < left w
specs_less w next s is = spec_shortens w next s is

pub specs_done : (w next : Window) → spec_from w ≡ Ok (None, next) → specs_from w ≡ record { items = []; end = Ok next }
specs_done w next is = listing_done spec_from spec_shortens w next is

pub specs_bad : (w : Window) (e : BadFile) → spec_from w ≡ Err e → specs_from w ≡ record { items = []; end = Err e }
specs_bad w e is = listing_bad spec_from spec_shortens w e is
