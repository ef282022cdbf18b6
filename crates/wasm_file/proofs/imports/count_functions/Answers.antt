use Rattle.std.proofs.Common.{◌≡◌, ◌∙◌, ℕ, ◌+◌, ◌-◌, ◌≤◌, Bool, true, false, List, ◌∷◌, ap, sym, arith}
use Rattle.std.specs.Prelude.{count_by, if◌then◌else◌}
use mir.Val.{bool_byte}
use Rattle.std.proofs.lemmas.List.Sums.{sum_by-cons}
use Rattle.wasm_file.specs.Imports.{import_at}
use Rattle.wasm_file.proofs.RecordLemmas.{fault_later, values_next}
use Rattle.wasm_file.proofs.imports.count_functions.Goals as goal

one_more : (b : Bool) (found one total : ℕ) (left rest : List Bool) → left ≡ b ∷ rest → one ≡ bool_byte b
    → found + count_by (λ is_function. is_function) left ≡ total → found + one + count_by (λ is_function. is_function) rest ≡ total
one_more true found one total left rest is counts e = let k = ap (λ (xs : List Bool). count_by (λ is_function. is_function) xs) is in let cons = sum_by-cons (λ (x : Bool). if x then 1 else 0) true rest in omega arith
one_more false found one total left rest is counts e = let k = ap (λ (xs : List Bool). count_by (λ is_function. is_function) xs) is in let cons = sum_by-cons (λ (x : Bool). if x then 1 else 0) false rest in omega arith

at_most_one : (b : Bool) (one : ℕ) → one ≡ bool_byte b → one ≤ 1
at_most_one true one is = omega arith
at_most_one false one is = omega arith

pub loop-i-preserved : goal.loop-i-preserved
loop-i-preserved c =
    let n = c.args.count - c.loop-i.i in
    let m = c.args.count - (c.loop-i.i + 1) in
    let one : n ≡ m + 1 = omega arith in
    let few = at_most_one _ _ c.from-found.ensures in (
      sym (fault_later import_at n m _ _ _ one c.in-Some.ensures) ∙ c.loop-i.invariant.0,
      one_more _ _ _ _ _ _ (values_next import_at n m _ _ _ one c.in-Some.ensures) c.from-found.ensures c.loop-i.invariant.1,
      omega arith,
    )
