use Rattle.wasm_file.proofs.SectionLemmas.{none_left, one_bad, one_more}
use Rattle.wasm_file.proofs.LawLemmas.{sections_follow}
use Rattle.wasm_file.proofs.laws.sections_follow_one_another.Goals as goal

pub returns : goal.returns
returns c = record { more = one_more; fault = one_bad; end = none_left; places = sections_follow }
