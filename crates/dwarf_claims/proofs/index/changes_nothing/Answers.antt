-- An attribute that changes nothing takes no bytes, and isn't read or came before.
use Rattle.std.proofs.Common.{sym, ◌∙◌}
use Rattle.dwarf_units.proofs.SameRoots.{without_again, without_unread}
use Rattle.dwarf_claims.proofs.index.changes_nothing.Goals as goal

pub returns-then-not-is_read : goal.returns-then-not-is_read
returns-then-not-is_read c = λ is rest. without_unread c.args.spec c.args.needed.now.specs.items rest (c.has_bytes.ensures.none c.if-has_bytes.false) (c.is_read.ensures.unread c.if-not-is_read.true)

pub returns-else-not-is_read : goal.returns-else-not-is_read
returns-else-not-is_read c = λ is rest. without_again c.args.spec c.args.needed.now.specs.items rest (c.has_bytes.ensures.none c.if-has_bytes.false) (c.requires c.args.spec.attribute (rw c.deref.ensures.value at (sym c.contains.ensures.value ∙ is)))
