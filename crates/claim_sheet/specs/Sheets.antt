-- The sheet of claims, as contracts see it.
use Rattle.std.specs.Prelude.{◌≡◌, ℕ, ◌≤◌, Bool, true, false, nat_lt, List, [], ◌∷◌, ◌++◌, length, Result, Ok, Err, if◌then◌else◌}
use Rattle.std.specs.List.{filter}
use Rattle.size_core.specs.declared.claim.Claim.{Claim}
use Rattle.size_core.specs.declared.claim.Side.{Side}
use Rattle.size_core.specs.declared.fault.BadFile.{BadFile}
use Rattle.size_model.specs.declared.view.LabelledClaim.{LabelledClaim}
use Rattle.claim_sheet.specs.Made.{AreNumbered, AreUsed}
use Rattle.claim_sheet.specs.Reaches.{is_on_addresses}

-- A sheet: the labels that the pool had when the sheet began; the limit on the number of claims; whether the sheet takes
-- only claims on addresses without bytes of the file; the claims added so far; and whether a claim was dropped because
-- of the limit.
pub record Sheet : Type 0 where
  pub pool : List (List ℕ)
  pub limit : ℕ
  pub addresses_only : Bool
  pub made : List LabelledClaim
  pub over : Bool

-- An empty sheet that takes every claim.
abbrev pub fresh : List (List ℕ) → ℕ → Sheet
fresh pool limit = record { pool = pool; limit = limit; addresses_only = false; made = []; over = false }

-- An empty sheet that takes only claims on addresses.
abbrev pub fresh_on_addresses : List (List ℕ) → ℕ → Sheet
fresh_on_addresses pool limit = record { pool = pool; limit = limit; addresses_only = true; made = []; over = false }

-- A sheet that takes only claims on addresses, or every claim, takes a claim on this side.
abbrev pub is_taken : Bool → Side → Bool
is_taken true side = is_on_addresses side
is_taken false side = true

-- The sheet after a claim that it takes. At the limit the claim is dropped, and the sheet is marked as over.
abbrev pub keeping : Sheet → LabelledClaim → Sheet
keeping s c = if nat_lt (length s.made) s.limit then record s { made = s.made ++ c ∷ [] } else record s { over = true }

-- The sheet after a claim. If the sheet doesn't take it, the sheet is unchanged.
abbrev pub adding_one : Sheet → LabelledClaim → Sheet
adding_one s c = if is_taken s.addresses_only c.side then keeping s c else s

-- The sheet after these claims, in order.
unfoldable pub adding : Sheet → List LabelledClaim → Sheet
adding s [] = s
adding s (c ∷ cs) = adding (adding_one s c) cs

-- The sheet after the claims of a reading, or the reading's fault.
abbrev pub adding_read : Sheet → Result (List LabelledClaim) BadFile → Result Sheet BadFile
adding_read s (Ok made) = Ok (adding s made)
adding_read s (Err bad) = Err bad

-- The claims that cover addresses and no bytes of the file, in order.
abbrev pub on_addresses : List LabelledClaim → List LabelledClaim
on_addresses claims = filter (λ c. is_on_addresses c.side) claims

-- The claims of a reading that cover addresses and no bytes of the file, or the reading's fault.
abbrev pub read_on_addresses : Result (List LabelledClaim) BadFile → Result (List LabelledClaim) BadFile
read_on_addresses (Ok made) = Ok (on_addresses made)
read_on_addresses (Err bad) = Err bad

-- The invariant of a sheet: the pool still has the labels that it had at first; each later label is used by a claim;
-- the label of each claim is a number in the pool; there are at most `limit` claims; and if a claim was dropped
-- because of the limit, there are exactly `limit`.
pub record IsSheet (pool : List (List ℕ)) (first : ℕ) (claims : List Claim) (limit : ℕ) (over : Bool) : Type 0 where
  pub within : first ≤ length pool
  pub numbered : AreNumbered pool claims
  pub used : AreUsed first pool claims
  pub few : length claims ≤ limit
  pub full : over ≡ true → limit ≤ length claims
