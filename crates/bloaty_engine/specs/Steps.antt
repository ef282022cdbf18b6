-- The results of the steps of a run.
use Rattle.std.specs.Prelude.{◌≡◌, ℕ, ◌+◌, ◌-◌, ◌<◌, ◌≤◌, ⊤, Bool, true, false, List, length, take, Option, Some, Result, Ok, Err, Vec, IsOk}
use Rattle.std.specs.declared.alloc.Global.{Global}
use Rattle.size_core.specs.declared.limits.Limits.{Limits}
use Rattle.size_model.specs.declared.view.FileView.{FileView}
use Rattle.config_text.specs.declared.config.CustomSource.{CustomSource}
use Rattle.rollup.specs.Totals.{Totals}
use Rattle.run_outcome.specs.declared.outcome.Outcome.{Outcome}
use Rattle.run_outcome.specs.declared.outcome.Outcome.TheVariants.{ReadFailed, TooLong, Bad, TooManyClaims, MappedTooLarge, NoMatch, PlaceOutside, UnknownSource, PatternSyntax, PatternTooBig, NoMemory}
use Rattle.custom_rewrites.specs.Pattern.{IsNoPattern}
use Rattle.file_profile.specs.Patterns.{StopsAt}
use Rattle.file_profile.specs.Sources.{Chosen, chosen_sources}
use Rattle.file_reports.specs.SizeReport.{HasCounted}
use Rattle.bloaty_engine.specs.Reading.{Reading, reading_from}
use Rattle.bloaty_engine.specs.Verdict.{counted_from, customs_in, next_limit, total_limit}

-- A read of file i found these bytes, under this limit: it returned them, or they are more than the limit.
abbrev pub Finds : ℕ → ℕ → List ℕ → Result (Vec ℕ Global) Outcome → Type 0
Finds i limit bytes (Ok v) = (v.items ≡ bytes) × (length bytes ≤ limit)
Finds i limit bytes (Err (TooLong j)) = (j ≡ i) × (limit < length bytes)
Finds i limit bytes (Err (ReadFailed j)) = j ≡ i
Finds i limit bytes (Err NoMemory) = ⊤
Finds i limit bytes (Err end) = ⊥

-- A step ends a run at a failed read that may happen, out of memory, or with the outcome of `decided`.
abbrev pub EndsWith : {X : Type 0} → (ℕ → Type 0) → Result X Outcome → Outcome → Type 0
EndsWith may_fail decided (ReadFailed i) = may_fail i
EndsWith may_fail decided NoMemory = ⊤
EndsWith may_fail decided end = decided ≡ Err end

-- The outcomes that can end a run while it reads, counts or explains its files.
abbrev pub is_file_end : Outcome → Bool
is_file_end (ReadFailed i) = true
is_file_end (TooLong i) = true
is_file_end (Bad i fault offset) = true
is_file_end (TooManyClaims i) = true
is_file_end MappedTooLarge = true
is_file_end NoMatch = true
is_file_end PlaceOutside = true
is_file_end NoMemory = true
is_file_end end = false

-- The same for a step over files, which has no other outcomes than these.
abbrev pub EndsFilesWith : {X : Type 0} → (ℕ → Type 0) → Result X Outcome → Outcome → Type 0
EndsFilesWith may_fail decided end = (is_file_end end ≡ true) × EndsWith may_fail decided end

-- No read can fail.
abbrev pub Nowhere : ℕ → Type 0
Nowhere i = ⊥

-- The custom data sources of a configuration with this text, or the outcome that it has a fault or couldn't be read.
abbrev pub EndsConfig : Limits → Option (List ℕ) → List ℕ → Result (Vec CustomSource Global) Outcome → Type 0
EndsConfig limits name text (Ok v) = customs_in limits name text ≡ Ok v.items
EndsConfig limits name text (Err end) =
    EndsWith (λ i. (i ≡ 0) × ((n : List ℕ) × (name ≡ Some n))) (customs_in limits name text) end

-- A step that reads no file has this result, or runs out of memory.
abbrev pub EndsAs : {X : Type 0} → Result (Unit {0}) Outcome → Result X Outcome → Type 0
EndsAs (Ok u) decided = IsOk decided
EndsAs (Err end) decided = EndsFilesWith Nowhere decided end

-- Files that are counted together: their names, the number of the first of them, and the sum of the lengths of the
-- files before it.
pub record Batch : Type 0 where
  pub first : ℕ
  pub before : ℕ
  pub names : List (List ℕ)

-- The files of these names after `count` files, whose lengths add up to `lengths`.
abbrev pub batch_of : ℕ → ℕ → List (List ℕ) → Batch
batch_of count lengths names = record { first = count + 1; before = lengths; names = names }

-- The files of a batch as a reading, within what the limits leave.
abbrev pub batch_reading : Limits → Batch → Reading
batch_reading limits b =
    reading_from b.first b.names (next_limit limits b.before + 1) (total_limit limits - b.before + 1)

-- The files of a batch as they are counted, or the outcome that ends the run at one of them.
abbrev pub counted_batch : Limits → List Chosen → (ℕ → List ℕ) → Batch → Result (List FileView) Outcome
counted_batch limits sources files b = counted_from limits sources files b.first b.before 0 b.names

-- File i is one of a batch, and those before it are counted.
abbrev pub IsFileOf : Limits → List Chosen → Batch → (ℕ → List ℕ) → ℕ → Type 0
IsFileOf limits sources b files i = (k : ℕ) × (i ≡ b.first + k) × (k < length b.names)
    × IsOk (counted_batch limits sources files (record b { names = take k b.names }))

-- The files with these bytes were counted. Or the run ended at one of them, or at a failed read after the files before
-- it were counted.
abbrev pub EndsFiles : Limits → List Chosen → Option (List ℕ → Bool) → Batch → (ℕ → List ℕ) → Result Totals Outcome → Type 0
EndsFiles limits sources filter b files (Ok t) =
    (fs : List FileView) × (counted_batch limits sources files b ≡ Ok fs) × HasCounted filter (length sources) fs t
EndsFiles limits sources filter b files (Err end) = EndsFilesWith (IsFileOf limits sources b files) (counted_batch limits sources files b) end

-- The outcome of a run that has no plan.
abbrev pub EndsPlan : List (List ℕ) → Option (List ℕ) → List CustomSource → List ℕ → Outcome → Type 0
EndsPlan names filter customs last (UnknownSource i) = chosen_sources customs names ≡ Err i
EndsPlan names filter customs last (PatternSyntax i) = IsOk (chosen_sources customs names) × StopsAt filter customs i IsNoPattern
EndsPlan names filter customs last (PatternTooBig i) =
    IsOk (chosen_sources customs names) × StopsAt filter customs i (λ pattern. last ≡ pattern)
EndsPlan names filter customs last NoMemory = Unit {0}
EndsPlan names filter customs last end = ⊥
