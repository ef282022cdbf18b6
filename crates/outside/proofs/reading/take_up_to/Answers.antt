use Rattle.std.proofs.Common.{arith, drop, ◌∙◌}
use Rattle.outside.proofs.GrownLemmas.{Consumes-more}
use Rattle.outside.proofs.TurnLemmas.{Filled-taken, Filled-took, Took-end, Took-last}
use Rattle.outside.proofs.reading.take_up_to.Goals as goal
use Rattle.outside.proofs.reading.take_up_to.Goals.{else-loop-filled-test, then-loop-filled-test+in-Ok-eq0}

pub loop-filled-preserved : goal.loop-filled-preserved
loop-filled-preserved g c =
    let read = c.in-Ok.ensures in
    let before = c.loop-filled.invariant in record {
      within = read.fits;
      room = omega (arith, read.room);
      chunk = omega (arith, read.room, before.chunk);
      turns = Filled-taken _ _ _ c.loop-filled.bytes.items c.read_more.new.bytes.items c.loop-filled.filled c.in-Ok.count read.front (omega (arith, read.fits, c.read_more.new.bytes.ok.0)) (omega (arith, c.in-Ok.count-test.1))
          (omega (arith, read.fits, read.room, c.min.ensures)) before.turns read.turn;
      failures = read.unfailed ∙ before.failures;
      read = Consumes-more _ _ _ c.loop-filled.bytes.items c.read_more.new.bytes.items c.loop-filled.filled c.in-Ok.count read.front before.read read.ok;
    }

pub returns-in-Err-clause-turns : goal.returns-in-Err-clause-turns
returns-in-Err-clause-turns g c =
    let read = c.in-Err.ensures in
    rw c.truncate.ensures.items (rw read.front (Took-last _ c.loop-filled.file.turns _ _ c.loop-filled.invariant.turns read.turn_of_none))

pub returns-clause-turns : goal.returns-clause-turns
returns-clause-turns g c = elim c.loop-filled-test.branch [
  | else-loop-filled-test w ↦ rw c.truncate-2.ensures.items (rw w.file-is (rw w.bytes-is (Filled-took _ _ _ c.loop-filled.invariant.turns)))
  | then-loop-filled-test+in-Ok-eq0 w ↦
      let read = w.in-Ok-eq0.ensures in
      rw c.truncate-2.ensures.items (rw w.file-is (rw w.bytes-is (rw read.front (Took-end _ _ _ _ (drop c.loop-filled.filled w.read_more.new.bytes.items) w.in-Ok-eq0.field-0 c.loop-filled.invariant.turns read.turn w.in-Ok-eq0.field-0-test))))
]
