use Rattle.dwarf_abbrev.specs.Declarations.{spec_from, declaration_from}
use Rattle.dwarf_abbrev.proofs.Listings.{listing_more, listing_done, listing_bad}
use Rattle.dwarf_abbrev.proofs.Forward.{spec_shortens, declaration_shortens}
use Rattle.dwarf_abbrev.proofs.laws.one_after_another.Goals as goal

pub returns : goal.returns
returns c = record {
  specs = record { more = listing_more spec_from spec_shortens; done = listing_done spec_from spec_shortens; fault = listing_bad spec_from spec_shortens };
  declarations = record { more = listing_more declaration_from declaration_shortens; done = listing_done declaration_from declaration_shortens; fault = listing_bad declaration_from declaration_shortens };
}
