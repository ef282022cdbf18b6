use Rattle.std.proofs.Common.{arith}
use Rattle.size_growth.proofs.MergeLemmas.{no-base}
use Rattle.size_growth.proofs.between.Rollups.pass.Goals as goal

pub returns-clause-left : goal.returns-clause-left
returns-clause-left c =
    no-base c.args.self.now.new.now.rows c.args.self.now.base.now.rows c.args.at.new c.args.at.base c.row.result.now c.row.result.now c.push.new.self.items c.args.paths.now.items c.in_ok-only_new.field-0 c.in_ok-push.ensures.items
    (omega arith) c.requires.new c.row.ensures c.in_ok-only_new.ensures
