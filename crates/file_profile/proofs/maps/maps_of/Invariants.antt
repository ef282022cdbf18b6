use Rattle.file_profile.specs.Claims.{layout_of}
use Rattle.file_profile.proofs.MapLemmas.{AreMappedTo}
use Rattle.file_profile.proofs.maps.maps_of.Given as goal

abbrev pub invariant-loop-i : goal.invariant-loop-i
invariant-loop-i l = AreMappedTo l.i l.left l.limit (layout_of l.file.binary) l.file l.plan.sources l.pool l.maps
