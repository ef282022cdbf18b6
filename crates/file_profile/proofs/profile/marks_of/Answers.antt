-- One more label has its mark.
use Rattle.std.proofs.Common.{◌≡◌, ◌∙◌, map, take, take_all, ap, arith}
use Rattle.size_model.proofs.Firsts.{map_more}
use Rattle.custom_rewrites.specs.Pattern.{is_found}
use Rattle.file_profile.proofs.profile.marks_of.Goals as goal

pub loop-k-preserved : goal.loop-k-preserved
loop-k-preserved c =
    let pushed = c.in_ok-push.ensures.items in
    let found = rw c.loop-k.invariant.1 at c.finds.ensures.found in (
      rw (pushed, c.loop-k.invariant.0, found) (map_more (is_found c.args.pattern.now) c.args.pool.now c.loop-k.k c.get.result.now c.get.ensures),
      c.finds.ensures.same ∙ c.loop-k.invariant.1,
    )

pub returns : goal.returns
returns c =
    let all : take c.loop-k.k c.args.pool.now ≡ c.args.pool.now = take_all _ _ (omega (arith, c.loop-k-test.false, c.len-k-end.ensures)) in
    c.loop-k.invariant.0 ∙ ap (map (is_found c.args.pattern.now)) all
