use Rattle.file_profile.proofs.PlaceLemmas.{AreSaidTo}
use Rattle.file_profile.proofs.explain.explain_all.Given as goal

abbrev pub invariant-loop-i : goal.invariant-loop-i
invariant-loop-i l = AreSaidTo l.request.limit l.left l.i l.request.place l.request.shown l.subject l.names l.plan.sources l.all.items
