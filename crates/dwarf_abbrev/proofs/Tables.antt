-- The declarations of a table, one after another.
use Rattle.std.proofs.Common.{◌≡◌, ◌<◌, ◌≤◌, [], ◌∷◌, Some, None, Ok, Err, refl, arith}
use Rattle.size_core.specs.declared.fault.BadFile.{BadFile}
use Rattle.byte_cursor.specs.Window.{Window}
use Rattle.dwarf_abbrev.specs.declared.declaration.Head.{Head}
use Rattle.dwarf_abbrev.specs.Listing.{left}
use Rattle.dwarf_abbrev.specs.Declarations.{head_from, specs_from, rest_of_declaration, declaration_from, declarations_from, IsWhole}
use Rattle.dwarf_abbrev.proofs.Listings.{listing_more, listing_done, listing_bad}
use Rattle.dwarf_abbrev.proofs.Forward.{head_shortens, declaration_shortens, specs_end}

-- A head that is read, and the attribute specifications after it up to their end.
pub declarations_more : (w at next : Window) (head : Head) → head_from w ≡ Ok (Some head, at) → (specs_from at).end ≡ Ok next
    → declarations_from w ≡ record { items = record { code = head.code; tag = head.tag; specs = (specs_from at).items } ∷ (declarations_from next).items; end = (declarations_from next).end }
unfolding declaration_from rest_of_declaration
declarations_more w at next head is ends =
    let reads : declaration_from w ≡ Ok (Some (record { code = head.code; tag = head.tag; specs = (specs_from at).items }), next) = rw (is, ends) refl in
    listing_more declaration_from declaration_shortens w next _ reads

pub declarations_cut : (w at : Window) (head : Head) (e : BadFile) → head_from w ≡ Ok (Some head, at) → (specs_from at).end ≡ Err e → declarations_from w ≡ record { items = []; end = Err e }
unfolding declaration_from rest_of_declaration
declarations_cut w at head e is ends =
    let reads : declaration_from w ≡ Err e = rw (is, ends) refl in
    listing_bad declaration_from declaration_shortens w e reads

pub declarations_done : (w next : Window) → head_from w ≡ Ok (None, next) → declarations_from w ≡ record { items = []; end = Ok next }
unfolding declaration_from rest_of_declaration
declarations_done w next is =
    let reads : declaration_from w ≡ Ok (None, next) = rw is refl in
    listing_done declaration_from declaration_shortens w next reads

pub declarations_bad : (w : Window) (e : BadFile) → head_from w ≡ Err e → declarations_from w ≡ record { items = []; end = Err e }
unfolding declaration_from
declarations_bad w e is =
    let reads : declaration_from w ≡ Err e = rw is refl in
    listing_bad declaration_from declaration_shortens w e reads

-- Each takes at least one byte.
pub declaration_less : (w at next : Window) (head : Head) → head_from w ≡ Ok (Some head, at) → (specs_from at).end ≡ Ok next → left next < left w
declaration_less w at next head is ends =
    let less : left at < left w = head_shortens w at head is in
    let le : left next ≤ left at = specs_end at next ends in
    omega arith

-- The rest of the table after a declaration has no fault.
pub rest_is_whole : (w at next : Window) (head : Head) → IsWhole w → head_from w ≡ Ok (Some head, at) → (specs_from at).end ≡ Ok next → IsWhole next
rest_is_whole w at next head whole reads ends = let more = declarations_more w at next head reads ends in rw more at whole

pub is_whole : (w next : Window) → (declarations_from w).end ≡ Ok next → IsWhole w
is_whole w next ends = rw ends refl
