use Rattle.std.proofs.Common.{◌∙◌, ◌++◌, ◌+◌, map, drop, sym, ap, arith, append-nil}
use Rattle.std.proofs.lemmas.List.{drop_all}
use Rattle.size_growth.specs.Merged.{base_path}
use Rattle.size_growth.proofs.MergeLemmas.{drop-got, gone}
use Rattle.size_growth.proofs.between.Rollups.pass_rest.Goals as goal

pub loop-i-preserved : goal.loop-i-preserved
loop-i-preserved c =
    let rows = c.args.self.now.base.now.rows in
    let i = c.loop-i.i in
    gone c.push.new.self.items c.loop-i.paths.items (map base_path (drop (i + 1) rows)) (map base_path (drop i rows)) c.in_ok-only_base.field-0 (base_path c.row.result.now) c.in_ok-push.ensures.items c.in_ok-only_base.ensures
    (ap (map base_path) (drop-got rows i c.row.result.now (omega arith) c.row.ensures)) ∙ c.loop-i.invariant

pub returns : goal.returns
returns c =
    let rows = c.args.self.now.base.now.rows in
    sym (append-nil c.loop-i.paths.items) ∙ (ap (λ rs. c.loop-i.paths.items ++ map base_path rs) (sym (drop_all c.loop-i.i rows (omega arith))) ∙ c.loop-i.invariant)
