use Rattle.std.proofs.Common.{◌≤◌, ◌-◌, ◌∙◌, length, arith, length-drop}
use Rattle.outside.proofs.GrownLemmas.{Grew-more}
use Rattle.outside.proofs.writing.write_whole.Goals as goal

pub loop-done-preserved : goal.loop-done-preserved
loop-done-preserved g c = let within : c.in_ok-done.field-0 ≤ length c.args.bytes.now - c.loop-done.done = omega (arith, c.in_ok-done.ensures.bound, length-drop c.loop-done.done c.args.bytes.now) in record {
  in_range = omega arith;
  grew = Grew-more c.loop-done.done c.in_ok-done.field-0 c.args.bytes.now _ _ _ within c.loop-done.invariant.grew c.in_ok-done.ensures.bytes;
  same = c.in_ok-done.ensures.uncounted ∙ c.loop-done.invariant.same;
}
