-- Two claims, one after the other.
use Rattle.std.proofs.Common.{◌∙◌}
use Rattle.std.proofs.lemmas.Result.{on_ok_weaker}
use Rattle.claim_sheet.proofs.SheetLemmas.{adding_more}
use Rattle.macho_claims.specs.Claims.{header_claims}
use Rattle.macho_claims.proofs.headers.add_headers.Goals as goal

pub returns : goal.returns
unfolding header_claims
returns c =
    let first = rw (c.in_file.ensures, c.span-header.ensures, c.header_len.ensures) at c.in_ok-add.ensures.adds.made in
    let last = rw c.commands_reach.ensures at c.add-2.ensures.adds.made in
    record { made = on_ok_weaker c.add-2.result (λ e. e ∙ rw first (adding_more c.args.sheet.now _ _)) last; kept = c.add-2.ensures.adds.kept ∙ c.add.ensures.adds.kept }
