-- The explanation from claims by number is the explanation from the claims with texts.
use Rattle.std.proofs.Common.{◌≡◌, length, ap, ◌∙◌, arith}
use Rattle.size_model.specs.Numbered.{numbered_view}
use Rattle.data_sources.specs.Groups.{bytes_of}
use Rattle.data_sources.specs.Loads.{loads_of}
use Rattle.place_explain.specs.Explanation.{explained}
use Rattle.file_profile.proofs.ClaimLemmas.{yields-made}
use Rattle.file_profile.proofs.LabelLemmas.{plain-view}
use Rattle.file_profile.proofs.explain.explain_built_in.Goals as goal

pub returns : goal.returns
returns c =
    let is = c.in_ok-made.ensures.yields.made in
    let from : c.in_ok-explained.explained ≡ explained (length (bytes_of c.args.subject.now.binary)) (loads_of c.args.subject.now.binary) c.args.request.now.place c.args.request.now.shown
    (numbered_view c.claims_by.new.pool c.in_ok-made.made.claims.items c.in_ok-made.made.unmapped) = rw (c.base.ensures, c.deref.ensures.value) at c.in_ok-explained.ensures in
    yields-made (record {
      made = is.made;
      are = is.are;
      shown = record {
        count = omega (arith, c.len-claims.ensures, c.in_ok-made.made.claims.ok, is.shown.count);
        explained = from ∙ ap (explained (length (bytes_of c.args.subject.now.binary)) (loads_of c.args.subject.now.binary) c.args.request.now.place c.args.request.now.shown) (is.shown.view ∙ plain-view c.args.base is.made);
      };
    })
