-- Abbreviation declarations, which describe the entries that use them (DWARF 5, section 7.5.3).
use Rattle.std.specs.Prelude.{ℕ, ℤ, pos, ◌-◌, ◌==◌, ◌&&◌, Bool, List, find, Option, Some, None, IsOk, Result, Ok, if◌then◌else◌}
use Rattle.size_core.specs.declared.fault.BadFile.{BadFile}
use Rattle.size_core.specs.declared.fault.Fault.TheVariants.{OffsetOutside}
use Rattle.size_core.specs.Checks.{◌>>=◌, bad}
use Rattle.byte_cursor.specs.Window.{Window, place_of}
use Rattle.dwarf_abbrev.specs.declared.constants.TheConstants.{DW_FORM_IMPLICIT_CONST}
use Rattle.dwarf_abbrev.specs.declared.spec.Spec.{Spec}
use Rattle.dwarf_abbrev.specs.declared.declaration.Head.{Head}
use Rattle.dwarf_abbrev.specs.Reads.{inside, uleb_from, sleb_from, byte_from}
use Rattle.dwarf_abbrev.specs.Listing.{Listing, left, listing}

-- The constant that follows a form: only `DW_FORM_implicit_const` has one, and any other form has 0 (DWARF 5,
-- section 7.5.3).
unfoldable pub constant_from : ℕ → Window → Result (ℤ × Window) BadFile
constant_from form w = if form == DW_FORM_IMPLICIT_CONST then sleb_from w else Ok (pos 0, w)

-- Whether a pair of numbers ends the attributes of a declaration: an attribute and a form of 0 (DWARF 5,
-- section 7.5.3).
abbrev pub is_end : ℕ → ℕ → Bool
is_end attribute form = attribute == 0 && form == 0

-- An attribute specification after its two numbers, or the end of the list (DWARF 5, section 7.5.3).
unfoldable pub rest_of_spec : ℕ → ℕ → Window → Result (Option Spec × Window) BadFile
rest_of_spec attribute form w =
    if is_end attribute form then Ok (None, w)
    else constant_from form w >>= (λ c. Ok (Some (record { attribute = attribute; form = form; constant = c.0 }), c.1))

-- An attribute specification of a declaration, or the end of the list (DWARF 5, section 7.5.3).
unfoldable pub spec_from : Window → Result (Option Spec × Window) BadFile
spec_from w = do
  attribute ← uleb_from w
  form ← uleb_from attribute.1
  rest_of_spec attribute.0 form.0 form.1

-- All attribute specifications of a declaration (DWARF 5, section 7.5.3).
abbrev pub specs_from : Window → Listing Spec
specs_from w = listing spec_from w

-- A declaration: its code, the tag of its entries, and their attribute specifications (DWARF 5, section 7.5.3).
pub record Declaration : Type 0 where
  pub code : ℕ
  pub tag : ℕ
  pub specs : List Spec

-- The head of a declaration after its code: the tag, and the byte DW_CHILDREN_*, which is skipped. A code of 0 ends
-- the table (DWARF 5, section 7.5.3).
unfoldable pub rest_of_head : ℕ → Window → Result (Option Head × Window) BadFile
rest_of_head code w =
    if code == 0 then Ok (None, w)
    else uleb_from w >>= (λ tag. byte_from tag.1 >>= (λ children. Ok (Some (record { code = code; tag = tag.0 }), children.1)))

-- The head of a declaration, or the end of the table: a code of 0, or the end of the section (DWARF 5, section
-- 7.5.3).
unfoldable pub head_from : Window → Result (Option Head × Window) BadFile
head_from w = if left w == 0 then Ok (None, w) else uleb_from w >>= (λ code. rest_of_head code.0 code.1)

-- The rest of a declaration after its head (DWARF 5, section 7.5.3).
unfoldable pub rest_of_declaration : Option Head → Window → Result (Option Declaration × Window) BadFile
rest_of_declaration None w = Ok (None, w)
rest_of_declaration (Some head) w = (specs_from w).end >>= λ next. Ok (Some (record { code = head.code; tag = head.tag; specs = (specs_from w).items }), next)

-- A declaration, or the end of the table: a code of 0, or the end of the section (DWARF 5, section 7.5.3).
unfoldable pub declaration_from : Window → Result (Option Declaration × Window) BadFile
declaration_from w = head_from w >>= λ head. rest_of_declaration head.0 head.1

-- All declarations of a table (DWARF 5, section 7.5.3).
abbrev pub declarations_from : Window → Listing Declaration
declarations_from w = listing declaration_from w

-- The declarations of a table have no fault.
abbrev pub IsWhole : Window → Type 0
IsWhole w = IsOk (declarations_from w).end

-- A table of declarations: its file offset, its length in bytes, and its declarations.
pub record Table : Type 0 where
  pub place : ℕ
  pub len : ℕ
  pub declarations : List Declaration

-- The table that begins in this window, or its first fault (DWARF 5, section 7.5.3).
abbrev pub table_in : Option Window → ℕ → Result Table BadFile
table_in None place = bad OffsetOutside place
table_in (Some w) place = (declarations_from w).end >>= λ next. Ok (record { place = place_of w; len = left w - left next; declarations = (declarations_from w).items })

-- The table at an offset of the section, or its first fault. If the offset is outside the section, the fault
-- has the file offset `place` (DWARF 5, section 7.5.3).
unfoldable pub table_at : Window → ℕ → ℕ → Result Table BadFile
table_at section offset place = table_in (inside section offset) place

-- The first declaration with this code (DWARF 5, section 7.5.3).
abbrev pub declared : List Declaration → ℕ → Option Declaration
declared declarations code = find (λ d. d.code == code) declarations
