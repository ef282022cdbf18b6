-- The load of the next slot is pushed.
use Rattle.std.proofs.Common.{◌∙◌, sym}
use Rattle.size_core.proofs.Gathered.{gather_next}
use Rattle.elf_claims.proofs.loads.loads_of.Goals as goal

pub loop-i-preserved : goal.loop-i-preserved
loop-i-preserved c = record {
  are = rw (c.in_ok-push_load.ensures.pushed, c.load_at.ensures.load)
      (sym (gather_next c.loop-i.loads.items _ _ _ (rw c.load_slots-i-end.ensures at c.loop-i-test.true)) ∙ c.loop-i.invariant.are);
  fit = c.in_ok-push_load.ensures.all;
}
