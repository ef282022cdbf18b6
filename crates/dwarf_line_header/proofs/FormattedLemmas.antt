-- A table of DWARF 5, one part after another.
use Rattle.std.proofs.Common.{◌≡◌, ℕ, Ok, refl}
use Rattle.byte_cursor.specs.Window.{Window}
use Rattle.dwarf_abbrev.specs.declared.shape.UnitShape.{UnitShape}
use Rattle.dwarf_abbrev.specs.Reads.{byte_from}
use Rattle.dwarf_units.specs.declared.sections.Sections.{Sections}
use Rattle.dwarf_line_header.specs.FormattedTables.{format_from, pair_from}
use Rattle.dwarf_line_header.specs.Tables.{items_of, many_from, passed_over}
use Rattle.dwarf_line_header.proofs.TableLemmas.{passed_is}

pub format_is : (sections : Sections) (s : UnitShape) (w w1 w2 : Window) (n : ℕ) → byte_from w ≡ Ok (n, w1) → passed_over (many_from pair_from n w1) ≡ Ok (tt, w2)
    → format_from sections s w ≡ Ok (record { sections = sections; shape = s; pairs = items_of (many_from pair_from n w1) }, w2)
unfolding format_from
format_is sections s w w1 w2 n count pairs = rw (count, passed_is (many_from pair_from n w1) w2 pairs) refl
