use Rattle.std.proofs.Common.{◌≡◌, ◌<◌, ◌-◌, length, suc, refl, ap, ◌∙◌, arith, vec_len}
use Rattle.std.proofs.Math.ListN.{set}
use Rattle.size_model.specs.Cut.{end_of}
use Rattle.range_map.specs.Emit.{longer}
use Rattle.range_map.proofs.Pieces.{EndsBy-get, set_longer}
use Rattle.range_map.proofs.appending.lengthen.Goals as goal

pub overflow_add-last : goal.overflow_add-last
overflow_add-last c =
    let some : 0 < vec_len c.args.out.now = c.in-Some.ensures.variant.0 refl in
    let e = ap end_of c.in-Some.ensures.value in
    let h = (EndsBy-get c.args.out.now.items _ (vec_len c.args.out.now - 1) c.in-Some.last.now c.requires (omega (arith, c.args.out.now.ok.0))) in
    omega arith

pub returns-in-Some : goal.returns-in-Some
returns-in-Some c =
    let some : 0 < vec_len c.args.out.now = c.in-Some.ensures.variant.0 refl in
    let n : length c.args.out.now.items ≡ suc (vec_len c.args.out.now - 1) = omega (arith, c.args.out.now.ok.0) in
    ap (λ q. set c.args.out.now.items (vec_len c.args.out.now - 1) (longer q c.args.by)) c.in-Some.ensures.value ∙ set_longer c.args.out.now.items c.args.by c.in-Some.last.now _ n
