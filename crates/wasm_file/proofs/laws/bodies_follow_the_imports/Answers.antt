use Rattle.wasm_file.proofs.LawLemmas.{bodies_follow, bodies_have_names}
use Rattle.wasm_file.proofs.laws.bodies_follow_the_imports.Goals as goal

pub returns : goal.returns
returns c = record { indices = bodies_follow; names = bodies_have_names }
