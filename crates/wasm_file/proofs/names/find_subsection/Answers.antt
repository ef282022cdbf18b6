use Rattle.std.proofs.Common.{◌≡◌, ◌∙◌, true, false, nat_eq, sym, arith}
use Rattle.std.proofs.lemmas.Grind.{common_steps}
use Rattle.wasm_file.proofs.NameLemmas.{found_here, found_later}
use Rattle.wasm_file.proofs.names.find_subsection.Goals as goal

pub returns-then-kind-id : goal.returns-then-kind-id
returns-then-kind-id c =
    let same : nat_eq c.in-Some.kind c.args.id ≡ true = grind (arith, common_steps) in
    sym (found_here _ _ (c.in-Some.kind, c.in-Some.contents) _ c.in-Some.ensures same) ∙ c.loop-kind.invariant

pub loop-kind-preserved : goal.loop-kind-preserved
loop-kind-preserved c =
    let other : nat_eq c.in-Some.kind c.args.id ≡ false = grind (arith, common_steps) in
    sym (found_later _ _ (c.in-Some.kind, c.in-Some.contents) _ c.in-Some.ensures other) ∙ c.loop-kind.invariant
