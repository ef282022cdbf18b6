-- Records that follow one another, read up to the first that can't be read.
use Rattle.std.specs.Prelude.{◌≡◌, ℕ, zero, suc, List, [], ◌∷◌, map, Option, Some, None, Result, Ok, Err}
use Rattle.size_core.specs.declared.fault.BadFile.{BadFile}
use Rattle.size_core.specs.declared.fault.Fault.TheVariants.{BadWasm}
use Rattle.size_core.specs.Checks.{Check, bad, first_of}
use Rattle.byte_cursor.specs.Window.{Window, place_of}
use Rattle.wasm_file.specs.Numbers.{number_at}

-- The check that a record can be read.
abbrev pub check_of : {X : Type 0} → Result X BadFile → Check
check_of (Ok x) = Ok tt
check_of (Err e) = Err e

-- The checks that each record can be read.
abbrev pub checks_of : {X : Type 0} → List (Result X BadFile) → List Check
checks_of read = map check_of read

-- The value if the check holds, or the fault of the check.
abbrev pub under : {X : Type 0} → Check → X → Result X BadFile
under (Ok c) x = Ok x
under (Err e) x = Err e

-- The records that can be read.
abbrev pub values : {X : Type 0} → List (Result X BadFile) → List X
values [] = []
values (Ok x ∷ read) = x ∷ values read
values (Err e ∷ read) = values read

-- A record and then those from the next offset on, or its fault.
abbrev pub record_and_rest : {X : Type 0} → Option (X × ℕ) → ℕ → (ℕ → List (Result X BadFile)) → List (Result X BadFile)
record_and_rest None place rest = bad BadWasm place ∷ []
record_and_rest (Some x) place rest = Ok x.0 ∷ rest x.1

-- This many records from the position of a window on. Each begins where the one before it ends. One that
-- can't be read is the fault BadWasm at its offset, and ends the list.
unfoldable pub records : {X : Type 0} → (Window → Option (X × ℕ)) → ℕ → Window → List (Result X BadFile)
records read zero w = []
records read (suc count) w = record_and_rest (read w) (place_of w) (λ next. records read count (record w { at = next }))

-- As many records as the count that was read, or BadWasm at its offset if there is no count.
abbrev pub counted : {X : Type 0} → (Window → Option (X × ℕ)) → Option (ℕ × ℕ) → Window → List (Result X BadFile)
counted read None w = bad BadWasm (place_of w) ∷ []
counted read (Some count) w = records read count.0 (record w { at = count.1 })

-- The vector at the position of a window: a count and that many records. A count that can't be read is the
-- fault BadWasm at its offset (WebAssembly core 2.0, 5.1.3 Vectors).
unfoldable pub vector : {X : Type 0} → (Window → Option (X × ℕ)) → Window → List (Result X BadFile)
vector read w = counted read (number_at w.bytes w.at) w

-- The first fault of this many records from the position of a window on.
unfoldable pub fault_in : {X : Type 0} → (Window → Option (X × ℕ)) → ℕ → Window → Check
fault_in read count w = first_of (checks_of (records read count w))

-- The records that can be read, of this many from the position of a window on.
unfoldable pub values_in : {X : Type 0} → (Window → Option (X × ℕ)) → ℕ → Window → List X
values_in read count w = values (records read count w)

-- The value of a read, and the window after it.
pub record IsRead {X : Type 0} (read : Option (X × ℕ)) (w : Window) (x : X) (next : Window) : Type 0 where
  pub is : read ≡ Some (x, next.at)
  pub same : next ≡ record w { at = next.at }

-- The result of a read of a window, and the window after it. Without a value the position is unspecified.
abbrev pub Reads : {X : Type 0} → Option X → (Window → Option (X × ℕ)) → Window → Window → Type 0
Reads None read old new = read old ≡ None
Reads (Some x) read old new = IsRead (read old) old x new
