-- Sections, bodies and names as contracts see them.
use Rattle.std.specs.Prelude.{◌≡◌, ℕ, List, Option, Result, Ok, Err, Vec, map, option_map}
use Rattle.std.specs.Borrow.{Bor}
use Rattle.std.specs.Option.{option_copied}
use Rattle.size_core.specs.declared.fault.BadFile.{BadFile}
use Rattle.size_core.specs.Checks.{Check, IsFirstFault}
use Rattle.wasm_file.specs.declared.answer.WasmAnswer.{WasmAnswer}
use Rattle.wasm_file.specs.declared.answer.WasmAnswer.TheVariants.{Bad, NoMemory}
use Rattle.wasm_file.specs.declared.section.WasmSection.{WasmSection}
use Rattle.wasm_file.specs.declared.body.Body.{Body}
use Rattle.wasm_file.specs.Sections.{SectionRecord}
use Rattle.wasm_file.specs.Functions.{BodyRecord}

-- A section as contracts see it.
abbrev pub section : WasmSection → SectionRecord
section s = record { place = s.place; len = s.len; id = s.id; name = option_copied s.name; contents = s.contents }

-- A body as contracts see it.
abbrev pub body : Body → BodyRecord
body b = record { index = b.index; place = b.place; len = b.len; name = option_copied b.name }

-- A pair of an index and a name as contracts see it.
abbrev pub named : ℕ × Bor (List ℕ) → ℕ × List ℕ
named p = (p.0, p.1.now)

-- A pair of an index and a name, or none, as contracts see it.
abbrev pub pair : Option (ℕ × Bor (List ℕ)) → Option (ℕ × List ℕ)
pair read = option_map named read

-- The result of `functions` is as defined: these bodies, or this fault. Out of memory can come in either
-- case.
abbrev pub Answers : {A : Type 0} → Result (Vec Body A) WasmAnswer → Result (List BodyRecord) BadFile → Type 0
Answers (Ok v) wanted = wanted ≡ Ok (map body v.items)
Answers (Err (Bad e)) wanted = wanted ≡ Err e
Answers (Err NoMemory) wanted = Unit {0}

-- A fault is that of the first check that fails.
abbrev pub IsFirstFaultOf : List Check → WasmAnswer → Type 0
IsFirstFaultOf checks (Bad e) = IsFirstFault checks e
IsFirstFaultOf checks NoMemory = Unit {0}
