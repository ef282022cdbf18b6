-- The bytes and addresses that a claim covers, and how its label is written.
use Rattle.std.specs.Prelude.{ℕ, ◌-◌, ◌==◌, ◌&&◌, min, Bool, true, false, List, [], ◌∷◌, ◌++◌, codes, Option, None, Some, if◌then◌else◌}
use Rattle.size_core.specs.declared.claim.Load.{Load}
use Rattle.size_core.specs.declared.claim.Span.{Span}
use Rattle.size_core.specs.declared.claim.Side.{Side}
use Rattle.size_core.specs.declared.claim.Side.TheVariants.{File, Vm, Both}
use Rattle.size_model.specs.declared.view.LabelledClaim.{LabelledClaim}
use Rattle.size_model.specs.Loads.{load_len}
use Rattle.claim_sheet.specs.declared.reach.Reach.{Reach}
use Rattle.claim_sheet.specs.declared.labels.Wrap.{Wrap}
use Rattle.claim_sheet.specs.declared.labels.Wrap.TheVariants.{Plain, Brackets, Section}

-- The span that is empty or isn't used: all its numbers are 0.
abbrev pub no_span : Span
no_span = record { space = 0; start = 0; len = 0 }

-- A span of a space. All empty spans are equal.
abbrev pub span : ℕ → ℕ → ℕ → Span
span space start len = if len == 0 then no_span else record { space = space; start = start; len = len }

-- Covers bytes of the file only.
abbrev pub in_file : Span → Reach
in_file file = record { side = File; vm = no_span; file = file }

-- Covers virtual addresses only.
abbrev pub in_memory : Span → Reach
in_memory vm = record { side = Vm; vm = vm; file = no_span }

-- Covers virtual addresses and bytes of the file.
abbrev pub in_both : Span → Span → Reach
in_both vm file = record { side = Both; vm = vm; file = file }

-- Covers the addresses of a load, and the bytes that it maps from a file of this length. Bytes after the end of the file
-- are left out.
abbrev pub of_load : ℕ → Load → Reach
of_load len l = in_both (span l.space l.vaddr l.memsz) (span 0 l.offset (min (load_len l) (len - l.offset)))

-- Covers the addresses of a load only.
abbrev pub of_addresses : Load → Reach
of_addresses l = in_memory (span l.space l.vaddr l.memsz)

-- Neither a byte nor an address is covered.
abbrev pub is_empty : Reach → Bool
is_empty r = (r.vm.len == 0) && (r.file.len == 0)

-- A claim on this side covers addresses and no bytes of the file.
abbrev pub is_on_addresses : Side → Bool
is_on_addresses Vm = true
is_on_addresses File = false
is_on_addresses Both = false

-- The claim that covers these bytes and addresses.
abbrev pub claim_of : Reach → List ℕ → LabelledClaim
claim_of r label = record { side = r.side; vm = r.vm; file = r.file; label = label }

-- The list of the one claim that covers these bytes and addresses. If it would cover nothing, the list is empty.
abbrev pub claim_on : Reach → List ℕ → List LabelledClaim
claim_on r label = if is_empty r then [] else claim_of r label ∷ []

-- The same, with no claim if there is nothing to cover.
abbrev pub claim_on_some : Option Reach → List ℕ → List LabelledClaim
claim_on_some None label = []
claim_on_some (Some r) label = claim_on r label

-- A label, or the other one if the label is empty.
abbrev pub or_if_empty : List ℕ → List ℕ → List ℕ
or_if_empty [] other = other
or_if_empty (b ∷ label) other = b ∷ label

-- A label as a report shows it: unchanged, in brackets, or as `[section LABEL]`.
abbrev pub wrapped : Wrap → List ℕ → List ℕ
wrapped Plain label = label
wrapped Brackets label = codes "[" ++ label ++ codes "]"
wrapped Section label = codes "[section " ++ label ++ codes "]"
