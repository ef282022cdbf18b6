-- A pattern of the data source is refused for its size.
use Rattle.run_plan.proofs.BuildLemmas.{too-big}
use Rattle.run_plan.proofs.patterns.rewrites_from.Goals as goal

pub returns-in-Err-PatternTooBig : goal.returns-in-Err-PatternTooBig
returns-in-Err-PatternTooBig g c =
    let fails = rw c.in-Err-PatternTooBig.field-0-is at c.in-Err-PatternTooBig.ensures in
    too-big c.args.first c.in-Err-PatternTooBig.place c.args.source.now.rewrites fails.answer fails.built c.build.ensures.rises
