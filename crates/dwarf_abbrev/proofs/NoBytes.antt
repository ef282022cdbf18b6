-- Values of two forms take no bytes.
use Rattle.std.proofs.Common.{◌≡◌, ◌+◌, false, length, refl, arith}
use Rattle.std.specs.Prelude.{nat_lt}
use Rattle.std.proofs.lemmas.Grind.{common_steps}
use Rattle.byte_cursor.specs.Window.{place_of}
use Rattle.dwarf_abbrev.specs.declared.constants.TheConstants.{DW_FORM_FLAG_PRESENT, DW_FORM_IMPLICIT_CONST}
use Rattle.dwarf_abbrev.specs.declared.spec.Spec.{Spec}
use Rattle.dwarf_abbrev.specs.Forms.{form_of, layout_of}
use Rattle.dwarf_abbrev.specs.Reads.{skip_from}
use Rattle.dwarf_abbrev.specs.Values.{NoMeaning, ASigned, TakesNoBytes, content_by, plain_from, value_from}

pub flag_present : (spec : Spec) → spec.form ≡ DW_FORM_FLAG_PRESENT → TakesNoBytes spec
unfolding value_from content_by plain_from skip_from form_of layout_of
flag_present spec is shape w within =
    let fits : nat_lt (length w.bytes) (w.at + 0) ≡ false = grind (arith, common_steps) in
    let same : w.at + 0 ≡ w.at = omega arith in
    (record { place = place_of w; content = NoMeaning }, rw (is, fits, same) refl)

pub implicit_const : (spec : Spec) → spec.form ≡ DW_FORM_IMPLICIT_CONST → TakesNoBytes spec
unfolding value_from content_by form_of layout_of
implicit_const spec is shape w within = (record { place = place_of w; content = ASigned spec.constant }, rw is refl)
