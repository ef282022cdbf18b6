use Rattle.custom_rewrites.proofs.PatternLemmas.{not-both}
use Rattle.custom_rewrites.proofs.laws.no_text_is_both.Goals as goal

pub returns : goal.returns
returns c source is none = not-both source is none
