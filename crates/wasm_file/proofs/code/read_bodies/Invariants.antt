use Rattle.std.proofs.Common.{◌≡◌, ℕ, ◌+◌, ◌-◌, ◌<◌, ◌^◌, ◌++◌, length, map, nat_eq}
use Rattle.std.specs.Option.{option_copied}
use Rattle.std.specs.HashMap.{get}
use Rattle.wasm_file.specs.Functions.{body_at, numbered}
use Rattle.wasm_file.specs.Names.{first_of_index}
use Rattle.wasm_file.specs.Records.{fault_in, values_in}
use Rattle.wasm_file.specs.Shown.{body}
use Rattle.wasm_file.proofs.code.read_bodies.Given as goal

abbrev pub invariant-loop-i : goal.invariant-loop-i
invariant-loop-i l = record {
  named : (k : ℕ) → option_copied (get nat_eq l.table k) ≡ first_of_index k l.fn.names;
  fault : fault_in body_at (l.count - l.i) l.rest ≡ fault_in body_at l.count l.fn.cursor;
  made : map body l.bodies.items ++ numbered l.fn.names (l.first + l.i) (values_in body_at (l.count - l.i) l.rest) ≡ numbered l.fn.names l.first (values_in body_at l.count l.fn.cursor);
  few : l.first + l.i + length (values_in body_at (l.count - l.i) l.rest) < 2 ^ 32;
}
