use Rattle.std.proofs.Common.{arith}
use Rattle.std.proofs.lemmas.Grind.{common_steps}
use Rattle.wasm_file.specs.Functions.{functions_of}
use Rattle.wasm_file.specs.Shown.{Answers}
use Rattle.wasm_file.proofs.FunctionLemmas.{bad_imports, good_imports, counted_imports, means_answer}
use Rattle.wasm_file.proofs.RoomLemmas.{functions_fit}
use Rattle.wasm_file.proofs.file.WasmFile.functions.Goals as goal

pub returns-in_err-first-clause-first : goal.returns-in_err-first-clause-first
returns-in_err-first-clause-first c =
    let value : Answers c.from_residual.result (functions_of c.args.self.now) = grind (arith, bad_imports, good_imports) in
    means_answer c.args.self.now c.from_residual.result value

pub numbered_bodies-requires : goal.numbered_bodies-requires
numbered_bodies-requires c = grind (arith, common_steps, functions_fit, counted_imports)

pub returns-clause-first : goal.returns-clause-first
returns-clause-first c =
    let value : Answers c.numbered_bodies.result (functions_of c.args.self.now) = grind (arith, bad_imports, good_imports) in
    means_answer c.args.self.now c.numbered_bodies.result value
