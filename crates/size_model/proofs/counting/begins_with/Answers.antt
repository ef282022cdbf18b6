use Rattle.std.proofs.Common.{◌≡◌, List, ℕ, Bool, true, false, not, refl, sym, ap, ◌∙◌, arith}
use Rattle.std.specs.Str.{bytes_eq}
use Rattle.size_model.proofs.Firsts.{begins_step, begins_short, begins_end}
use Rattle.size_model.proofs.counting.begins_with.Goals as goal

unequal : (b : Bool) → not b ≡ true → b ≡ false
unequal true e = cc
unequal false e = refl

equal : (b : Bool) → not b ≡ false → b ≡ true
equal true e = refl
equal false e = cc

-- Whether two labels agree.
compared : (q q' p p' : List ℕ) (b : Bool) → q' ≡ q → p' ≡ p → bytes_eq q' p' ≡ b → bytes_eq q p ≡ b
compared q q' p p' b e f h = sym (ap (λ x. bytes_eq x p') e ∙ ap (bytes_eq q) f) ∙ h

pub returns-then-len : goal.returns-then-len
returns-then-len c = sym (begins_short c.args.path.now c.args.prefix.now (omega (arith, c.len.ensures, c.len-2.ensures)))

pub loop-i-preserved : goal.loop-i-preserved
loop-i-preserved c =
    sym (begins_step c.args.path.now c.args.prefix.now c.loop-i.i c.get-in-loop-i.result.now c.get.result.now true c.get-in-loop-i.ensures c.get.ensures
    (compared _ _ _ _ true c.as_slice.ensures c.as_slice-in-loop-i.ensures (equal _ (sym c.ne.ensures ∙ c.if-ne.false)))) ∙ c.loop-i.invariant

pub returns-then-ne : goal.returns-then-ne
returns-then-ne c =
    sym (sym c.loop-i.invariant ∙ begins_step c.args.path.now c.args.prefix.now c.loop-i.i c.get-in-loop-i.result.now c.get.result.now false c.get-in-loop-i.ensures c.get.ensures
    (compared _ _ _ _ false c.as_slice.ensures c.as_slice-in-loop-i.ensures (unequal _ (sym c.ne.ensures ∙ c.if-ne.true))))

pub returns : goal.returns
returns c = sym (sym c.loop-i.invariant ∙ begins_end c.args.path.now c.args.prefix.now c.loop-i.i (omega (arith, c.len-i-end.ensures)))
