use Rattle.std.proofs.Common.{◌≡◌, ◌∙◌, sym, ap, subst, arith}
use Rattle.std.proofs.lemmas.List.{take_all}
use Rattle.std.proofs.lemmas.Result.{IfOk-weaker}
use Rattle.report_rows.specs.declared.row.RowTree.{RowTree}
use Rattle.report_rows.specs.Groups.{IsPart}
use Rattle.report_rows.specs.Trees.{IsTree, AddsUp}
use Rattle.report_rows.proofs.GroupLemmas.{seen}
use Rattle.report_rows.proofs.RootLemmas.{is_part, rows_more}
use Rattle.report_rows.proofs.TreeLemmas.{is-tree, adds-up}
use Rattle.report_rows.proofs.listing.rows.Goals as goal

pub loop-i-preserved : goal.loop-i-preserved
loop-i-preserved c =
    rows_more c.args.rollup.now.rows c.loop-i.all.items c.push.new.self.items c.loop-i.i c.row.result (omega (arith, c.len-i-end.ensures.count)) c.loop-i.invariant c.in_ok-push.ensures.items c.row.ensures

pub tree-requires : goal.tree-requires
tree-requires c =
    let rollup = c.args.rollup.now in
    let all : seen c.as_slice.result.now ≡ rollup.rows = ap seen c.as_slice.ensures.value ∙ (c.loop-i.invariant ∙ take_all c.loop-i.i rollup.rows (omega (arith, c.len-i-end.ensures.count))) in
    subst (λ n. IsPart n 0 (seen c.as_slice.result.now)) (sym c.depth.ensures) (is_part rollup.depth rollup.lengths rollup.mapped rollup.rows (seen c.as_slice.result.now) c.len-i-end.ensures.totals all)

-- All rows are read, and they are a part.
part : (c : goal.After-drop-all-2) → IsPart c.depth.result 0 (seen c.as_slice.result.now)
part c =
    let rollup = c.args.rollup.now in
    let all : seen c.as_slice.result.now ≡ rollup.rows = ap seen c.as_slice.ensures.value ∙ (c.loop-i.invariant ∙ take_all c.loop-i.i rollup.rows (omega (arith, c.len-i-end.ensures.count))) in
    subst (λ n. IsPart n 0 (seen c.as_slice.result.now)) (sym c.depth.ensures) (is_part rollup.depth rollup.lengths rollup.mapped rollup.rows (seen c.as_slice.result.now) c.len-i-end.ensures.totals all)

pub returns-clause-levels : goal.returns-clause-levels
returns-clause-levels c =
    IfOk-weaker c.tree.result _ _ (λ t is. subst (λ (u : RowTree). IsTree u.depth u.rows) (sym is) (is-tree c.args.options.now c.depth.result (seen c.as_slice.result.now) (part c).deep)) c.tree.ensures

pub returns-clause-sums : goal.returns-clause-sums
returns-clause-sums c =
    IfOk-weaker c.tree.result _ _ (λ t is. subst (AddsUp c.args.options.now.domain) (sym is) (adds-up c.args.options.now c.depth.result (seen c.as_slice.result.now) (part c).deep)) c.tree.ensures
