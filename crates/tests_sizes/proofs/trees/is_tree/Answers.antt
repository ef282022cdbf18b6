use Rattle.std.proofs.Common.{◌≡◌, Bool, true, false, not, map, refl, ap, subst, sym, ◌∙◌}
use mathlib.Core.Bool.{beq}
use Rattle.report_rows.specs.Trees.{AreLevels}
use Rattle.tests_sizes.proofs.TreeLemmas.{rows-from}
use Rattle.tests_sizes.proofs.trees.is_tree.Goals as goal

differ : (a b : Bool) → beq a b ≡ false → a ≡ not b
differ true true e = e
differ true false e = refl
differ false true e = refl
differ false false e = sym e

pub loop-i-preserved : goal.loop-i-preserved
loop-i-preserved g c = λ all.
    let row = c.get-row.result.now in
    let rows = c.args.rows.now in
    let level = sym c.level-level.ensures in
    let is = sym (c.has_children.ensures row c.get-row.ensures) ∙ (differ c.has_children.result c.is_last.result c.if-has_children-is_last.false ∙ rw c.is_last.ensures refl) in
    c.loop-i.invariant
    (subst (AreLevels c.args.depth c.loop-i.highest) (sym (ap (map g.R.TreeRow.as_row) (rows-from rows c.loop-i.i row c.get-row.ensures)))
    (rw level c.if-level-highest.false, rw level c.if-level-depth.false, is, rw level all))
