use Rattle.std.proofs.Common.{◌≡◌, sym, subst, arith}
use Rattle.rollup.specs.Totals.{IsTotals}
use Rattle.size_growth.specs.Between.{IsBetween}
use Rattle.size_growth.specs.Merged.{merged}
use Rattle.size_growth.specs.Paths.{IsGrowth}
use Rattle.size_growth.proofs.BetweenLemmas.{merged-between, merged-growth, rest-left}
use Rattle.size_growth.proofs.growth.Growth.between.Goals as goal

pub returns-clause-sizes : goal.returns-clause-sizes
returns-clause-sizes c =
    let ns = c.args.new.now.rows in
    let bs = c.args.base.now.rows in
    let all : c.pass_rest.new.paths.items ≡ merged ns bs =
    rest-left ns bs c.loop-at.at.new c.loop-at.at.base c.loop-at.paths.items c.pass_rest.new.paths.items (merged ns bs) (omega arith) c.loop-at.invariant.all c.in_ok-pass_rest.ensures in
    subst (IsBetween ns bs) (sym all) (merged-between ns bs)

pub invariant_of-result : goal.invariant_of-result
invariant_of-result c =
    let new = c.args.new.now in
    let base = c.args.base.now in
    let all : c.pass_rest.new.paths.items ≡ merged new.rows base.rows =
    rest-left new.rows base.rows c.loop-at.at.new c.loop-at.at.base c.loop-at.paths.items c.pass_rest.new.paths.items (merged new.rows base.rows) (omega arith) c.loop-at.invariant.all c.in_ok-pass_rest.ensures in
    let totals : IsTotals new.depth base.rows base.lengths base.mapped = subst (λ d. IsTotals d base.rows base.lengths base.mapped) (sym c.requires) c.len-2.ensures.totals in
    subst (λ d. IsGrowth d c.pass_rest.new.paths.items) (sym c.depth.ensures)
    (subst (IsGrowth new.depth) (sym all) (merged-growth new.depth new.lengths new.mapped base.lengths base.mapped new.rows base.rows c.len.ensures.totals totals))
