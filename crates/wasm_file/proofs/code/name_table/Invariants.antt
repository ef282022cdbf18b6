use Rattle.std.proofs.Common.{◌≡◌, ℕ, nat_eq}
use Rattle.std.specs.Option.{option_copied}
use Rattle.std.specs.HashMap.{get}
use Rattle.wasm_file.specs.Names.{first_of_index}
use Rattle.wasm_file.specs.Steps.{or_else}
use Rattle.wasm_file.proofs.code.name_table.Given as goal

abbrev pub invariant-loop-index : goal.invariant-loop-index
invariant-loop-index l = (k : ℕ) → or_else (option_copied (get nat_eq l.table k)) (first_of_index k l.index-iterator) ≡ first_of_index k l.fn.names
