-- Lists of records in a window that have no count before them.
use Rattle.std.specs.Prelude.{◌≡◌, ℕ, zero, suc, ◌-◌, ◌<◌, ◌==◌, List, [], ◌∷◌, ◌++◌, length, Option, Some, None, Result, Ok, Err, if◌then◌else◌}
use Rattle.size_core.specs.declared.fault.BadFile.{BadFile}
use Rattle.size_core.specs.declared.fault.Fault.TheVariants.{Truncated}
use Rattle.size_core.specs.Checks.{◌>>=◌, bad}
use Rattle.byte_cursor.specs.Window.{Window, place_of}

-- The number of bytes of a window that remain.
abbrev pub left : Window → ℕ
left w = length w.bytes - w.at

-- The records up to an end mark or a fault, and the window after the mark or the fault.
pub record Listing (X : Type 0) : Type 0 where
  pub items : List X
  pub end : Result Window BadFile

-- A record followed by the rest of the list, or the end of the list.
abbrev pub followed : {X : Type 0} → Option X → Window → Listing X → Listing X
followed None next rest = record { items = []; end = Ok next }
followed (Some i) next rest = record { items = i ∷ rest.items; end = rest.end }

-- A record followed by the rest of the list, or the fault of the record.
abbrev pub going_on : {X : Type 0} → Result (Option X × Window) BadFile → (Window → Listing X) → Listing X
going_on (Err e) rest = record { items = []; end = Err e }
going_on (Ok x) rest = followed x.0 x.1 (rest x.1)

-- At most fuel records of a window. `read` reads one record, or none at an end mark. If the fuel runs out, the list
-- ends with a fault.
unfoldable pub listing_from : {X : Type 0} → (Window → Result (Option X × Window) BadFile) → ℕ → Window → Listing X
listing_from read zero w = record { items = []; end = bad Truncated (place_of w) }
listing_from read (suc fuel) w = going_on (read w) (listing_from read fuel)

-- All records of a window. Each takes at least one byte, so there are no more of them than bytes that remain, and the
-- fuel is enough.
abbrev pub listing : {X : Type 0} → (Window → Result (Option X × Window) BadFile) → Window → Listing X
listing read w = listing_from read (suc (left w)) w

-- Reading a record takes at least one byte.
abbrev pub Shortens : {X : Type 0} → (Window → Result (Option X × Window) BadFile) → Type 0
Shortens {X} read = (w next : Window) (i : X) → read w ≡ Ok (Some i, next) → left next < left w

-- A call moved past all of these records, or returned the fault among them.
abbrev pub Reaches : {U X : Type 0} → Result U BadFile → Window → Listing X → Type 0
Reaches (Ok u) new records = records.end ≡ Ok new
Reaches (Err e) new records = records.end ≡ Err e

-- A read of a record, or none at the end of the window.
unfoldable pub up_to_end : {X : Type 0} → (Window → Result (X × Window) BadFile) → Window → Result (Option X × Window) BadFile
up_to_end read w = if left w == 0 then Ok (None, w) else read w >>= (λ x. Ok (Some x.0, x.1))

-- The records that aren't skipped, in order. `None` is a record that is skipped.
unfoldable pub handed_out : {X : Type 0} → List (Option X) → List (Result X BadFile)
handed_out [] = []
handed_out (None ∷ records) = handed_out records
handed_out (Some x ∷ records) = Ok x ∷ handed_out records

-- The fault that ends a list, if one does.
abbrev pub last_fault : {X : Type 0} → Result Window BadFile → List (Result X BadFile)
last_fault (Ok next) = []
last_fault (Err e) = Err e ∷ []

-- The records of a window up to its end, without those that are skipped, and then the fault. `read` reads one record, or
-- none if the record is skipped.
unfoldable pub records_in : {X : Type 0} → (Window → Result (Option X × Window) BadFile) → Window → List (Result X BadFile)
records_in read w = handed_out (listing (up_to_end read) w).items ++ last_fault (listing (up_to_end read) w).end

-- The records of a window are its first record and then those of the rest of the window. A record that is skipped isn't
-- among them. A fault is the last item, and at the end of the window there is none.
pub record RecordsFollow (X : Type 0) (read : Window → Result (Option X × Window) BadFile) (all : Window → List (Result X BadFile)) : Type 0 where
  pub more : (w next : Window) (x : X) → 0 < left w → read w ≡ Ok (Some x, next) → all w ≡ Ok x ∷ all next
  pub skipped : (w next : Window) → 0 < left w → read w ≡ Ok (None, next) → all w ≡ all next
  pub fault : (w : Window) (e : BadFile) → 0 < left w → read w ≡ Err e → all w ≡ Err e ∷ []
  pub done : (w : Window) → left w ≡ 0 → all w ≡ []
