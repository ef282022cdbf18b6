use Rattle.std.proofs.Common.{◌∙◌, sym}
use Rattle.size_growth.proofs.MergeLemmas.{less, equal, greater}
use Rattle.size_growth.proofs.between.Rollups.pass_lesser.Goals as goal

pub returns-in_ok-push-in-Less-clause-left : goal.returns-in_ok-push-in-Less-clause-left
returns-in_ok-push-in-Less-clause-left c =
    less c.args.self.now.new.now.rows c.args.self.now.base.now.rows c.args.at.new c.args.at.base c.row-ours.result.now c.row-theirs.result.now c.push.new.self.items c.args.paths.now.items c.in_ok-only_new-in-Less.field-0
    c.in_ok-push-in-Less.ensures.items c.requires.new c.requires.base c.row-ours.ensures c.row-theirs.ensures (sym c.compare_paths.ensures ∙ c.in-Less.is) c.in_ok-only_new-in-Less.ensures

pub returns-in_ok-push-in-Equal-clause-left : goal.returns-in_ok-push-in-Equal-clause-left
returns-in_ok-push-in-Equal-clause-left c =
    equal c.args.self.now.new.now.rows c.args.self.now.base.now.rows c.args.at.new c.args.at.base c.row-ours.result.now c.row-theirs.result.now c.push-in-Equal.new.self.items c.args.paths.now.items c.in_ok-in_both-in-Equal.field-0
    c.in_ok-push-in-Equal.ensures.items c.requires.new c.requires.base c.row-ours.ensures c.row-theirs.ensures (sym c.compare_paths.ensures ∙ c.in-Equal.is) c.in_ok-in_both-in-Equal.ensures

pub returns-in_ok-push-in-Greater-clause-left : goal.returns-in_ok-push-in-Greater-clause-left
returns-in_ok-push-in-Greater-clause-left c =
    greater c.args.self.now.new.now.rows c.args.self.now.base.now.rows c.args.at.new c.args.at.base c.row-ours.result.now c.row-theirs.result.now c.push-in-Greater.new.self.items c.args.paths.now.items c.in_ok-only_base-in-Greater.field-0
    c.in_ok-push-in-Greater.ensures.items c.requires.new c.requires.base c.row-ours.ensures c.row-theirs.ensures (sym c.compare_paths.ensures ∙ c.in-Greater.is) c.in_ok-only_base-in-Greater.ensures
