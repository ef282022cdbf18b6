-- The label that was read is known on the sheet if it was known before.
use Rattle.dwarf_claims.proofs.unit.add_unit_with_root.Goals as goal

pub add-requires : goal.add-requires
add-requires c = c.read.ensures.known c.args.sheet.now.made c.requires.last.known
