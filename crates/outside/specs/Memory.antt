-- Files and a sink in memory, which fail at the calls whose numbers are listed. Calls are counted from 1.
use Rattle.std.specs.Prelude.{◌≡◌, ℕ, ◌+◌, ◌-◌, ◌^◌, min, max, Bool, nat_lt, ◌==◌, ◌&&◌, ◌||◌, if◌then◌else◌, List, [], ◌∷◌, ◌++◌, length, take, Option, None, Some, string_bytes, String, ⊤, Result, Ok, Err, Vec}
use Rattle.std.specs.List.{list_any}
use Rattle.std.specs.declared.alloc.Global.{Global}
use Rattle.outside.specs.declared.files.FileAnswer.{FileAnswer}
use Rattle.outside.specs.declared.files.FileAnswer.TheVariants.{Failed, TooLong, NoMemory}
use Rattle.outside.specs.declared.sink.Failed.{Failed as FailedWrite}
use Rattle.outside.specs.Causes.{raised}
use Rattle.outside.specs.Held.{Pairs, held_bytes}

-- The call after this many is listed as failing. A call after 2^64 - 1 others never fails.
abbrev pub next_fails : ℕ → List ℕ → Bool
next_fails calls failing = nat_lt calls (2 ^ 64 - 1) && list_any (λ n. n == calls + 1) failing

-- Files in memory that fail at the listed reads.
pub record FilesInMemory : Type 0 where
  pub pairs : Pairs
  pub failing : List ℕ
  pub calls : ℕ
  pub faults : ℕ
  pub last_failed : List ℕ
  pub asked : List (List ℕ)
  pub gave : Pairs

-- Files in memory that never fail.
pub record SoundFiles : Type 0 where
  pub pairs : Pairs
  pub asked : List (List ℕ)
  pub gave : Pairs

-- Files of these pairs that fail at the listed reads, before any read.
abbrev pub fresh_files : Pairs → List ℕ → FilesInMemory
fresh_files pairs failing = record { pairs = pairs; failing = failing; calls = 0; faults = 0; last_failed = []; asked = []; gave = [] }

-- The name of the last failed read, empty before any failure.
abbrev pub name_of_failed : Option (String Global) → List ℕ
name_of_failed None = []
name_of_failed (Some name) = string_bytes name

-- The bytes of a name, or TooLong if there are more than the limit.
abbrev pub bytes_or_long : List ℕ → ℕ → Result (List ℕ) FileAnswer
bytes_or_long bytes limit = if nat_lt limit (length bytes) then Err TooLong else Ok bytes

-- What a read returns, unless memory runs out.
abbrev pub read_answer : FilesInMemory → List ℕ → ℕ → Result (List ℕ) FileAnswer
read_answer f name limit = if next_fails f.calls f.failing then Err Failed else bytes_or_long (held_bytes f.pairs name) limit

-- A read returned this answer, or memory ran out.
abbrev pub Reads : Result (Vec ℕ Global) FileAnswer → Result (List ℕ) FileAnswer → Type 0
Reads (Ok v) answer = answer ≡ Ok v.items
Reads (Err Failed) answer = answer ≡ Err Failed
Reads (Err TooLong) answer = answer ≡ Err TooLong
Reads (Err NoMemory) answer = ⊤

-- The files after a failure at a name. The calls are counted elsewhere.
abbrev pub failed_at : FilesInMemory → List ℕ → FilesInMemory
failed_at f name = record f { faults = raised f.faults; last_failed = name }

-- The files after a read of a name is counted, whatever it returns.
abbrev pub asked_for : FilesInMemory → List ℕ → FilesInMemory
asked_for f name = record f { calls = raised f.calls; asked = f.asked ++ name ∷ [] }

-- The files after a read of a name returned these bytes.
abbrev pub given_by : FilesInMemory → List ℕ → List ℕ → FilesInMemory
given_by f name bytes = record f { gave = f.gave ++ (name, bytes) ∷ [] }

-- The files after a read of a name with this result.
abbrev pub files_after : FilesInMemory → List ℕ → Result (Vec ℕ Global) FileAnswer → FilesInMemory
files_after f name (Ok v) = given_by (asked_for f name) name v.items
files_after f name (Err Failed) = failed_at (asked_for f name) name
files_after f name (Err TooLong) = asked_for f name
files_after f name (Err NoMemory) = asked_for f name

-- A sink in memory: the bytes that it took, its capacity in bytes, and the most that it takes in a call.
pub record SinkInMemory : Type 0 where
  pub written : List ℕ
  pub room : ℕ
  pub most : ℕ
  pub failing : List ℕ
  pub calls : ℕ
  pub faults : ℕ

-- A sink before any write. A call takes at least 1 byte, even if most is 0.
abbrev pub fresh_sink : ℕ → ℕ → List ℕ → SinkInMemory
fresh_sink room most failing = record { written = []; room = room; most = max most 1; failing = failing; calls = 0; faults = 0 }

-- How many bytes of the capacity are free.
abbrev pub room_left : SinkInMemory → ℕ
room_left s = s.room - length s.written

-- What a write of this many bytes returns.
abbrev pub write_answer : SinkInMemory → ℕ → Result ℕ FailedWrite
write_answer s len = if next_fails s.calls s.failing || (room_left s == 0) then Err (record {}) else Ok (min (min len s.most) (room_left s))

-- The sink after a write of a piece with this result.
abbrev pub sink_after : SinkInMemory → List ℕ → Result ℕ FailedWrite → SinkInMemory
sink_after s piece (Ok n) = record s { written = s.written ++ take n piece; calls = raised s.calls }
sink_after s piece (Err e) = record s { calls = raised s.calls; faults = raised s.faults }
