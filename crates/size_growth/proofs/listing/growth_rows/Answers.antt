use Rattle.std.proofs.Common.{◌∙◌, ap, refl, sym, subst, arith}
use Rattle.report_rows.specs.declared.row.RowOptions.{RowOptions}
use Rattle.size_growth.specs.declared.row.GrowthTree.{GrowthTree}
use Rattle.size_growth.specs.Paths.{IsGrowth, Paths}
use Rattle.size_growth.specs.Trees.{GrowsAlike, IsGrowthTree}
use Rattle.size_growth.proofs.ListLemmas.{tree-is, whole-part}
use Rattle.size_growth.proofs.TreeLemmas.{is-tree, grows}
use Rattle.size_growth.proofs.listing.growth_rows.Goals as goal

pub list-requires : goal.list-requires
list-requires c =
    let growth = c.args.growth.now in
    let known = subst (λ (g : Paths). IsGrowth g.depth g.paths) c.growth.view_is c.growth.invariant in
    let seen = c.as_slice-paths.ensures.value ∙ ap (λ (g : Paths). g.paths) c.growth.view_is in
    record { part = whole-part growth.depth c.depth-depth.result growth.paths c.as_slice-paths.result.now known c.depth-depth.ensures seen; within = omega arith }

pub sums-requires : goal.sums-requires
sums-requires c =
    let growth = c.args.growth.now in
    let known = subst (λ (g : Paths). IsGrowth g.depth g.paths) c.growth.view_is c.growth.invariant in
    let seen = c.as_slice-paths.ensures.value ∙ ap (λ (g : Paths). g.paths) c.growth.view_is in
    (whole-part growth.depth growth.depth growth.paths c.as_slice-paths.result.now known refl seen).fits

pub returns : goal.returns
returns c =
    let growth = c.args.growth.now in
    let o : RowOptions = record { limit = c.args.limit; sort = c.args.sort; domain = c.args.domain } in
    let known = subst (λ (g : Paths). IsGrowth g.depth g.paths) c.growth.view_is c.growth.invariant in
    let seen = c.as_slice-paths.ensures.value ∙ ap (λ (g : Paths). g.paths) c.growth.view_is in
    let is = tree-is o growth.depth c.depth-depth.result c.sums.result c.list.new.out c.new-rows.result growth.paths c.as_slice-paths.result.now c.depth-depth.ensures seen c.sums.ensures c.new-rows.ensures c.in_ok-list.ensures in
    record {
      rows = is;
      levels = subst (λ (t : GrowthTree). IsGrowthTree t.depth t.rows) (sym is) (is-tree o growth.depth growth.paths known.deep);
      growths = subst (GrowsAlike c.args.domain) (sym is) (grows o growth.depth growth.paths known.deep);
    }
