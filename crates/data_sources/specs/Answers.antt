-- The answer of a data source if a walk over the file stopped.
use Rattle.claim_sheet.specs.declared.stop.Stop.{Stop}
use Rattle.claim_sheet.specs.declared.stop.Stop.TheVariants as stops
use Rattle.data_sources.specs.declared.answer.ClaimAnswer.{ClaimAnswer}
use Rattle.data_sources.specs.declared.answer.ClaimAnswer.TheVariants as answers

-- The answer for a walk that stopped: the same fault, or out of memory.
abbrev pub answer_of : Stop → ClaimAnswer
answer_of (stops.Bad bad) = answers.Bad bad
answer_of stops.NoMemory = answers.NoMemory
