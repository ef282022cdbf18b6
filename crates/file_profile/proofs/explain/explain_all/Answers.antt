-- One more data source has its explanation.
use Rattle.std.proofs.Common.{refl, arith}
use Rattle.size_model.proofs.Firsts.{item_at}
use Rattle.file_profile.specs.Choices.{chosen_of}
use Rattle.file_profile.proofs.ClaimLemmas.{refused-as, yields-made}
use Rattle.file_profile.proofs.PlaceLemmas.{places-end, places-more, places-refused}
use Rattle.file_profile.proofs.explain.explain_all.Goals as goal

pub returns-in_err-made : goal.returns-in_err-made
returns-in_err-made c =
    let name = item_at c.args.names.now c.loop-i.i (omega (arith, c.loop-i-test.true, c.len-i-end.ensures, c.requires.names)) in
    refused-as _ (places-refused c.args.request.now.limit c.loop-i.left c.loop-i.i c.args.request.now.place c.args.request.now.shown c.args.subject.now c.args.names.now c.args.plan.now.sources c.loop-i.all.items
    c.loop-i.invariant name.0 (chosen_of c.source-chosen.result) name.1 c.source-chosen.ensures) c.from_residual.ensures.1 c.in_err-made.ensures

pub loop-i-preserved : goal.loop-i-preserved
loop-i-preserved c =
    places-more c.args.request.now.limit c.loop-i.left c.loop-i.i c.args.request.now.place c.args.request.now.shown c.args.subject.now c.args.names.now c.args.plan.now.sources c.loop-i.all.items
    c.loop-i.invariant c.get.result.now (chosen_of c.source-chosen.result) c.get.ensures c.source-chosen.ensures c.rewrites_the_label_alone.ensures c.in_ok-made.made c.in_ok-explain_under_name.field-0 c.push.new.self.items
    c.in_ok-made.ensures.made c.in_ok-explain_under_name.ensures c.in_ok-push.ensures.items

pub returns : goal.returns
returns c =
    yields-made (record {
      made = c.loop-i.all.items;
      are = places-end c.args.request.now.limit c.loop-i.left c.loop-i.i c.args.request.now.place c.args.request.now.shown c.args.subject.now c.args.names.now c.args.plan.now.sources c.loop-i.all.items
          c.loop-i.invariant (omega (arith, c.loop-i-test.false, c.len-i-end.ensures));
      shown = refl;
    })
