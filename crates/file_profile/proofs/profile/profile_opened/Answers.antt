-- The answer is that of the file's definition, and the added sizes are the counts of its bytes.
use Rattle.std.proofs.Common.{length, sym, subst, ◌∙◌}
use Rattle.std.specs.Prelude.{All}
use Rattle.rollup.specs.Sizes.{IsEntry}
use Rattle.file_profile.proofs.ProfileLemmas.{profiles-added}
use Rattle.file_profile.proofs.profile.profile_opened.Goals as goal

pub add_sizes-requires-clause-entries : goal.add_sizes-requires-clause-entries
add_sizes-requires-clause-entries g c =
    let maps = c.in_ok-maps.ensures.made.shown in
    let labels = length c.in_ok-maps.maps.pool in
    subst (λ depth. All (IsEntry depth labels) c.in_ok-sizes.sizes.entries) (maps.each ∙ sym c.requires.depth) (c.in_ok-sizes.ensures.counts.0.entries labels maps.over.below)

pub returns-clause-effect : goal.returns-clause-effect
returns-clause-effect g c =
    let maps = c.in_ok-maps.ensures.made in
    let counted = c.in_ok-sizes.ensures in
    profiles-added c.args.total.now _ _ _ maps.made maps.are c.in_ok-maps.maps _ maps.shown _ _ _ counted.cost c.in_ok-sizes.sizes counted.counts.0 c.in_ok-add_sizes.ensures
