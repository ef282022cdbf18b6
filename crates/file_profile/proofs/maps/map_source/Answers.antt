-- The maps are made from the claims of the data source.
use Rattle.std.proofs.Common.{◌≡◌, length, arith}
use Rattle.file_profile.specs.Claims.{layout_of}
use Rattle.file_profile.proofs.ClaimLemmas.{yields-made}
use Rattle.file_profile.proofs.SpellLemmas.{Spells-cut}
use Rattle.file_profile.proofs.maps.map_source.Goals as goal

pub returns : goal.returns
returns c =
    let layout = layout_of c.args.file.now.binary in
    let made = c.in_ok-made.made in
    let is = c.in_ok-made.ensures.yields.made in
    let pool = c.claims_of_source.new.pool in
    let base : c.base-base.result.now ≡ layout = c.base-base.ensures in
    let claims : c.deref.result.now ≡ made.claims.items = c.deref.ensures.value in
    let built = rw (claims, base) at c.in_ok-maps.ensures in
    record {
      yields = yields-made (record {
        made = is.made;
        are = is.are;
        shown = record {
          count = omega (arith, c.len-claims.ensures, made.claims.ok, is.shown.count);
          spells = Spells-cut layout pool made.claims.items made.unmapped c.in_ok-maps.maps _ is.shown.view is.shown.numbered is.shown.unmapped built.file built.vm;
          over = built.over;
          below = built.labels (length pool) is.shown.unmapped is.shown.numbered;
          pieces = rw (← is.shown.count) built.few_by_loads;
        };
      });
      kept = c.in_ok-made.ensures.kept;
    }
