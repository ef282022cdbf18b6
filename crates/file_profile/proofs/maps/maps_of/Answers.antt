-- One more data source is mapped.
use Rattle.std.proofs.Common.{◌≡◌, length, arith}
use Rattle.file_profile.specs.Claims.{layout_of}
use Rattle.file_profile.specs.Choices.{chosen_of}
use Rattle.file_profile.specs.Views.{source_view}
use Rattle.file_profile.specs.Sources.{Chosen}
use Rattle.file_profile.proofs.ClaimLemmas.{refused-as, yields-made}
use Rattle.file_profile.proofs.MapLemmas.{mapped-more, mapped-none}
use Rattle.file_profile.proofs.WalkLemmas.{rest-none, rest-refused}
use Rattle.file_profile.proofs.maps.maps_of.Goals as goal

pub loop-i-init : goal.loop-i-init
loop-i-init c = mapped-none c.args.limit (layout_of c.args.file.now.binary) c.args.file.now c.args.plan.now.sources _ c.new-maps.result c.new-maps.ensures.items

pub returns-in_err-mapped : goal.returns-in_err-mapped
returns-in_err-mapped c =
    refused-as _ (λ answer. rest-refused (λ (s : Chosen). s.base) source_view c.args.file.now c.args.limit c.loop-i.left c.loop-i.i c.args.plan.now.sources
    c.loop-i.invariant.views (chosen_of c.source-chosen.result) answer c.loop-i.invariant.rest c.source-chosen.ensures) c.from_residual.ensures.1 c.in_err-mapped.ensures.yields

pub loop-i-preserved : goal.loop-i-preserved
loop-i-preserved c =
    mapped-more c.loop-i.i c.loop-i.left c.args.limit (layout_of c.args.file.now.binary) c.args.file.now c.args.plan.now.sources (chosen_of c.source-chosen.result) c.source-chosen.ensures c.loop-i.pool c.map_source.new.pool
    c.loop-i.maps c.push.new.self c.in_ok-mapped.mapped c.loop-i.invariant c.in_ok-mapped.ensures.kept c.in_ok-mapped.ensures.yields.made c.in_ok-push.ensures.items

pub returns : goal.returns
returns c =
    let is = c.loop-i.invariant in
    let end : c.loop-i.i ≡ length c.args.plan.now.sources = omega (arith, c.loop-i-test.false, c.loop-i.auto.i-end, c.len-i-end.ensures) in
    yields-made (record {
      made = is.views;
      are = rest-none (λ (s : Chosen). s.base) source_view c.args.file.now c.args.limit c.loop-i.left c.loop-i.i c.args.plan.now.sources is.views is.rest (omega (arith, end));
      shown = rw end at is.mapped;
    })
