use Rattle.std.proofs.Common.{◌≡◌, ◌<◌, ◌-◌, true, length, suc, set, refl, ap, ◌∙◌, arith, vec_len}
use Rattle.path_rows.specs.declared.row.RollupRow.{RollupRow}
use Rattle.path_rows.specs.Rows.{joins_last, larger}
use Rattle.path_rows.proofs.Merging.{set_larger}
use Rattle.path_rows.proofs.merge.push.Goals as goal

pub returns-in-Some-clause-rows : goal.returns-in-Some-clause-rows
returns-in-Some-clause-rows c =
    let some : 0 < vec_len c.args.rows.now = c.in-Some.ensures.variant.0 refl in
    let n : length c.args.rows.now.items ≡ suc (vec_len c.args.rows.now - 1) = omega (arith, c.args.rows.now.ok.0) in
    let j : joins_last c.args.rows.now.items c.args.row.path ≡ true = cc in
    rw j (ap (λ (q : RollupRow). set c.args.rows.now.items (vec_len c.args.rows.now - 1) (larger q c.args.row)) c.in-Some.ensures.value ∙ set_larger c.args.rows.now.items c.args.row c.in-Some.last.now (vec_len c.args.rows.now - 1) n)
