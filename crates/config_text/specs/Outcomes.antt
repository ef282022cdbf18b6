-- The result of a call, by the reading that defines it.
use Rattle.std.specs.Prelude.{◌≡◌, Result, Ok, Err}
use Rattle.config_text.specs.declared.config.ConfigAnswer.{ConfigAnswer}
use Rattle.config_text.specs.declared.config.ConfigAnswer.TheVariants.{Bad, NoMemory}
use Rattle.config_text.specs.Grammar.{Fault}

-- The answer is the fault of the reading, or out of memory.
abbrev pub Fails : {Y : Type 0} → ConfigAnswer → Result Y Fault → Type 0
Fails (Bad kind at) read = read ≡ Err (kind, at)
Fails NoMemory read = Unit {0}

-- The result, seen through a function, is that of the reading, or out of memory.
abbrev pub Gives : {X Y : Type 0} → (X → Y) → Result X ConfigAnswer → Result Y Fault → Type 0
Gives view (Ok x) read = read ≡ Ok (view x)
Gives view (Err e) read = Fails e read

-- The reading is `rest` of the result. If the result is an error, it is the fault of the reading, or out of memory.
abbrev pub Carries : {X Y : Type 0} → Result X ConfigAnswer → Result Y Fault → (X → Result Y Fault) → Type 0
Carries (Ok x) read rest = read ≡ rest x
Carries (Err e) read rest = Fails e read
