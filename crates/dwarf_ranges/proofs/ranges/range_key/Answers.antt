-- The ranges of the unit are those of the key.
use Rattle.std.proofs.Common.{◌≡◌, Some, Ok, rules}
use Rattle.dwarf_abbrev.specs.Values.{ValueRecord, shown}
use Rattle.dwarf_units.specs.Roots.{RootRecord, shown_root}
use Rattle.dwarf_ranges.specs.Ranges.{list_name, told_address}
use Rattle.dwarf_ranges.proofs.KeyLemmas.{key_is}
use Rattle.dwarf_ranges.proofs.ranges.range_key.Goals as goal

pub returns : goal.returns
returns c =
    let root : RootRecord = shown_root c.args.root.now in
    let value : ValueRecord = shown c.in_ok-value.value.now in
    let named : root.ranges ≡ Some value = search rules in
    let is : list_name root.shape.version value.content ≡ Some c.in_ok-name.name = search rules in
    let low : told_address c.args.sections.now root root.low ≡ Ok c.in_ok-low.low = search rules in
    rw (c.base_or.ensures, c.pick.ensures, c.table_of.ensures) (key_is c.args.sections.now root value c.in_ok-name.name c.in_ok-low.low named is low)
