use Rattle.std.proofs.Common.{length, subst}
use Rattle.std.specs.Prelude.{All}
use Rattle.rollup.specs.Sizes.{IsEntry}
use Rattle.rollup.proofs.table.Rollup.add_file.Goals as goal

pub add_sizes-requires-clause-entries : goal.add_sizes-requires-clause-entries
add_sizes-requires-clause-entries g c =
    let labels = length c.args.pool.now in
    subst (λ depth. All (IsEntry depth labels) c.in_ok-sizes.sizes.entries) c.requires.depth (c.in_ok-sizes.ensures.counts.counts.entries labels c.requires.labels)
