use Rattle.std.proofs.Common.{◌≡◌, ◌∙◌, arith, ◌+◌, ◌-◌, get_or, to_z, of_z}
use Rattle.std.proofs.lemmas.Int.{ints}
use Rattle.std.specs.Int.{w64}
use Rattle.byte_cursor.proofs.LebLemmas.{signed-last, signed-more}
use Rattle.byte_cursor.proofs.leb.signed.Goals as goal

pub loop-i-init : goal.loop-i-init
loop-i-init c =
    let same : to_z w64 (of_z w64 c.signed_digit.result) ≡ c.signed_digit.result = omega (arith, ints) in
    (omega arith, signed-last c.args.bytes.now c.args.last _ _ (omega arith) c.requires.within c.requires.end (same ∙ c.signed_digit.ensures))

pub loop-i-preserved : goal.loop-i-preserved
loop-i-preserved c =
    let before = c.loop-i.invariant in (
      omega arith,
      signed-more c.args.bytes.now (c.loop-i.i - 1) c.loop-i.i (get_or c.args.bytes.now c.args.last 0) (c.args.last + 1 - c.loop-i.i) _ c.loop-i.value c.with_signed_digit-value.result
          (omega arith) (omega arith) (omega arith) (c.requires.before _ (omega arith)) before.1 c.with_signed_digit-value.ensures,
    )
