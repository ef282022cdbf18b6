use Rattle.std.proofs.Common.{◌≡◌}
use Rattle.debug_pair.specs.Notes.{notes}
use Rattle.debug_pair.proofs.IdentityLemmas.{first_id}
use Rattle.debug_pair.proofs.area.build_id.Given as goal

abbrev pub invariant-loop-note : goal.invariant-loop-note
invariant-loop-note l = first_id l.note-iterator ≡ first_id (notes l.fn.order l.fn.area)
