-- The records, and the claims that follow them.
use Rattle.std.proofs.Common.{◌∙◌, rules}
use Rattle.claim_sheet.proofs.LoopLemmas.{joined_claims}
use Rattle.data_sources.specs.Sources.{with_tail}
use Rattle.data_sources.proofs.groups.FileClaims.add_with_tail.Goals as goal

pub returns : goal.returns
unfolding with_tail
returns c = record {
  made = joined_claims c.args.sheet.now c.add_records.new.sheet c.add_parts.new.sheet _ _ c.in_ok-add_records.ensures.made c.in_ok-add_parts.ensures.made;
  bad = λ bad e. search rules;
  kept = c.add_parts.ensures.kept ∙ c.add_records.ensures.kept;
}
