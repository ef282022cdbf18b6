-- The claims are those of the data source.
use Rattle.std.proofs.Common.{◌≡◌, [], Some, length, sym, ap, ◌∙◌}
use Rattle.std.specs.Prelude.{slice_get}
use Rattle.std.proofs.lemmas.List.{length-map}
use Rattle.std.proofs.lemmas.Option.{get_or_from_slice_get, slice_get_within}
use Rattle.size_model.specs.Numbered.{labelled}
use Rattle.claim_sheet.proofs.MadeLemmas.{kept-more}
use Rattle.data_sources.specs.Views.{unmapped}
use Rattle.file_profile.proofs.ClaimLemmas.{kept-label, yields-made}
use Rattle.file_profile.proofs.LabelLemmas.{kept-get, plain-view}
use Rattle.file_profile.proofs.claims.claims_by.Goals as goal

pub returns : goal.returns
returns c =
    let is = c.in_ok-claims.ensures.yields.made in
    let kept = c.in_ok-claims.ensures.kept in
    let pool = c.all_claims.new.pool in
    let n = c.in_ok-unmapped.unmapped in
    let named : slice_get pool n ≡ Some unmapped = kept-get c.intern.new.self pool n unmapped kept c.in_ok-unmapped.ensures.number in
    record {
      yields = yields-made (record {
        made = is.made;
        are = is.are;
        shown = record {
          count = sym (ap length is.shown.are ∙ length-map c.in_ok-claims.claims.items (labelled pool));
          numbered = is.shown.numbered;
          unmapped = slice_get_within pool n unmapped named;
          view = rw (get_or_from_slice_get pool n unmapped [] named, ← is.shown.are) (sym (plain-view c.args.source is.made));
        };
      });
      kept = kept-more c.args.pool.now c.intern.new.self pool (kept-label c.args.pool.now c.intern.new.self unmapped c.in_ok-unmapped.ensures.pool) kept;
    }
