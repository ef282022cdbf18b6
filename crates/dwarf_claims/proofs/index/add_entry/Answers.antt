-- A declaration of a new code is added.
use Rattle.std.proofs.Common.{rules}
use Rattle.dwarf_claims.proofs.IndexLemmas.{entry_new}
use Rattle.dwarf_claims.proofs.index.add_entry.Goals as goal

pub returns : goal.returns
returns c = entry_new c.args.declared c.args.index.now c.insert.new.self c.in_ok-specs.specs (search rules) c.in_ok-specs.ensures (rw c.code-code.ensures at c.in_ok-insert.ensures.updates)
