-- The functions of a module, step by step.
use Rattle.std.proofs.Common.{◌≡◌, ℕ, List, Ok, Err, sym, ap}
use Rattle.std.specs.Prelude.{Result, MatchResult, Vec, map}
use Rattle.size_core.specs.declared.fault.BadFile.{BadFile}
use Rattle.size_core.specs.Checks.{◌>>◌, Check, first_of, AllHold}
use Rattle.size_core.proofs.FirstFault.{first_of_append}
use Rattle.wasm_file.specs.declared.answer.WasmAnswer.{WasmAnswer}
use Rattle.wasm_file.specs.declared.answer.WasmAnswer.TheVariants.{Bad, NoMemory}
use Rattle.wasm_file.specs.declared.body.Body.{Body}
use Rattle.wasm_file.specs.Functions.{bodies_of, extents_of, function_checks, functions_of, imports_of, numbered}
use Rattle.wasm_file.specs.Imports.{function_count}
use Rattle.wasm_file.specs.Module.{checked, sections_of}
use Rattle.wasm_file.specs.Names.{function_names}
use Rattle.wasm_file.specs.Records.{checks_of, under, values}
use Rattle.wasm_file.specs.Shown.{Answers, IsFirstFaultOf, body}
use Rattle.wasm_file.proofs.ModuleLemmas.{means_checked}

-- The imports are checked first, and then the bodies.
both_checks : (file : List ℕ) → first_of (function_checks file) ≡ (first_of (checks_of (imports_of file)) >> first_of (checks_of (extents_of file)))
unfolding function_checks
both_checks file = simp first_of_append

pub bad_imports : (file : List ℕ) (n : ℕ) (e : BadFile) → Err e ≡ checked (checks_of (imports_of file)) n → functions_of file ≡ Err e
bad_imports file n e h = rw both_checks (by_check (first_of (checks_of (imports_of file))) h)
  where
    by_check : (c : Check) → Err e ≡ under c n → under (c >> first_of (checks_of (extents_of file))) (bodies_of file) ≡ Err e
    by_check (Ok x) is = cc
    by_check (Err f) is = cc

pub good_imports : (file : List ℕ) (n : ℕ) → Ok n ≡ checked (checks_of (imports_of file)) (function_count (imports_of file))
    → functions_of file ≡ checked (checks_of (extents_of file)) (numbered (function_names (sections_of file)) n (values (extents_of file)))
unfolding bodies_of
good_imports file n h = rw both_checks (by_check (first_of (checks_of (imports_of file))) h)
  where
    by_check : (c : Check) → Ok n ≡ under c (function_count (imports_of file))
        → under (c >> first_of (checks_of (extents_of file))) (bodies_of file) ≡ checked (checks_of (extents_of file)) (numbered (function_names (sections_of file)) n (values (extents_of file)))
    by_check (Ok x) is =
        let same : function_count (imports_of file) ≡ n = cc in
        ap (λ (first : ℕ). checked (checks_of (extents_of file)) (numbered (function_names (sections_of file)) first (values (extents_of file)))) same
    by_check (Err f) is = cc

pub counted_imports : (file : List ℕ) (n : ℕ) → Ok n ≡ checked (checks_of (imports_of file)) (function_count (imports_of file)) → n ≡ function_count (imports_of file)
counted_imports file n h = by_check (first_of (checks_of (imports_of file))) h
  where
    by_check : (c : Check) → Ok n ≡ under c (function_count (imports_of file)) → n ≡ function_count (imports_of file)
    by_check (Ok x) is = cc
    by_check (Err f) is = cc

-- The result is Ok exactly if the checks hold, and otherwise the first fault.
pub means_answer : {A : Type 0} (file : List ℕ) (r : Result (Vec Body A) WasmAnswer) → Answers r (functions_of file) → MatchResult r (λ _. AllHold (function_checks file)) (IsFirstFaultOf (function_checks file))
means_answer file (Ok v) h = means_checked (function_checks file) (bodies_of file) (Ok (map body v.items)) (sym h)
means_answer file (Err (Bad e)) h = means_checked (function_checks file) (bodies_of file) (Err e) (sym h)
means_answer file (Err NoMemory) h = tt
