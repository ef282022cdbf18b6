use Rattle.path_rows.proofs.Merging.{climbs_back}
use Rattle.path_rows.proofs.merge.merge.Goals as goal

pub insert_all-requires-clause-climbs : goal.insert_all-requires-clause-climbs
insert_all-requires-clause-climbs c = climbs_back c.args.new.items c.requires.falls
