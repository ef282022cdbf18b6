use Rattle.std.proofs.Common.{◌≡◌, ◌∙◌, ℕ, ◌+◌, ◌-◌, [], ◌++◌, List, length, map, ap, sym, arith}
use Rattle.std.proofs.lemmas.List.{append-nil}
use Rattle.std.specs.Prelude.{Option}
use Rattle.std.specs.Option.{option_copied}
use Rattle.wasm_file.specs.declared.body.Extent.{Extent}
use Rattle.wasm_file.specs.Functions.{BodyRecord, body_at, numbered}
use Rattle.wasm_file.specs.Names.{name_in, some_name}
use Rattle.wasm_file.specs.Shown.{body}
use Rattle.wasm_file.proofs.BodyLemmas.{made_all, made_more}
use Rattle.wasm_file.proofs.RecordLemmas.{fault_end, fault_later, values_end, values_next}
use Rattle.wasm_file.proofs.code.read_bodies.Goals as goal

pub loop-i-preserved : goal.loop-i-preserved
loop-i-preserved c =
    let n = c.args.count - c.loop-i.i in
    let m = c.args.count - (c.loop-i.i + 1) in
    let w = c.loop-i.rest in
    let next = c.read_extent.new.cursor in
    let one : n ≡ m + 1 = omega arith in
    let values = values_next body_at n m w c.in-Some.extent next one c.in-Some.ensures in
    let lengths = ap (λ (xs : List Extent). length xs) values in
    let index = c.args.first + c.loop-i.i in
    let name : option_copied c.name_at.result ≡ name_in c.args.names index = c.name_at.ensures ∙ ap some_name (c.loop-i.invariant.named index) in
    let made = ap (λ (name : Option (List ℕ)). let r : BodyRecord = record { index = index; place = c.in-Some.extent.place; len = c.in-Some.extent.len; name = name } in r) name in
    record {
      named = c.loop-i.invariant.named;
      fault = sym (fault_later body_at n m w c.in-Some.extent next one c.in-Some.ensures) ∙ c.loop-i.invariant.fault;
      made = made_more _ _ _ _ index _ _ _ _ _ c.in_ok-push-in-Some.ensures.items (omega arith) values made c.loop-i.invariant.made;
      few = omega (arith, c.loop-i.invariant.few);
    }

pub returns : goal.returns
returns c =
    let none : c.args.count - c.loop-i.i ≡ 0 = omega arith in
    let fine = sym c.loop-i.invariant.fault ∙ fault_end body_at _ c.loop-i.rest none in
    let nothing = values_end body_at _ c.loop-i.rest none in
    let made : map body c.loop-i.bodies.items ≡ map body c.loop-i.bodies.items ++ [] = sym (append-nil (map body c.loop-i.bodies.items)) in
    made_all _ _ _ fine (made ∙ sym (ap (λ (xs : List Extent). map body c.loop-i.bodies.items ++ numbered c.args.names (c.args.first + c.loop-i.i) xs) nothing) ∙ c.loop-i.invariant.made)
