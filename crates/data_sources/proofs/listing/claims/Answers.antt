-- The sheet began empty and took the claims of the data source.
use Rattle.std.proofs.Common.{◌∙◌, ap}
use Rattle.std.proofs.lemmas.Result.{on_ok_weaker}
use Rattle.claim_sheet.proofs.LoopLemmas.{ended_all}
use Rattle.data_sources.specs.Lists.{IsRead}
use Rattle.data_sources.proofs.listing.claims.Goals as goal

pub returns : goal.returns
returns c = let begun = c.begin-sheet.ensures.sheet in let adds = c.add_source-walk.ensures in
    rw (adds.kept ∙ ap (λ s. s.pool) begun) at (c.finish.ensures _ c.args.limit (record {
      read = on_ok_weaker {Q = IsRead _ _ _} _ (λ made. let end = ended_all _ c.args.limit _ _ _ begun made in record { limited = end.limited; made = end.kept; past = end.past }) adds.made;
      bad = adds.bad;
    }))
