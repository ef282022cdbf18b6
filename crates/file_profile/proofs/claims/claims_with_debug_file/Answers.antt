-- The file's own claims come after those of the debug file.
use Rattle.std.proofs.Common.{arith}
use Rattle.claim_sheet.proofs.MadeLemmas.{kept-more}
use Rattle.file_profile.specs.Claims.{own_claims}
use Rattle.file_profile.proofs.ClaimLemmas.{after-made, yields-made}
use Rattle.file_profile.proofs.claims.claims_with_debug_file.Goals as goal

pub returns-in_ok-followed_by-in-Ok : goal.returns-in_ok-followed_by-in-Ok
returns-in_ok-followed_by-in-Ok c =
    let own = c.in_ok-own-in-Ok.ensures in
    record {
      yields = rw c.in-Ok.ensures.claims (yields-made (after-made c.args.limit c.len.result c.debug_claims.new.pool c.in-Ok.first (own_claims c.args.file.now c.args.source) c.in-Ok.ensures.few (omega (arith, c.len.ensures, c.in-Ok.first.ok))
          c.own_claims.new.pool c.in_ok-own-in-Ok.own c.in_ok-followed_by-in-Ok.field-0 own.kept c.in-Ok.ensures.numbered c.in_ok-followed_by-in-Ok.ensures own.yields.made));
      kept = kept-more _ _ _ c.in-Ok.ensures.kept own.kept;
    }
