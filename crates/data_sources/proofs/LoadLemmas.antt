-- The claims of the addresses of loads.
use Rattle.std.proofs.Common.{◌≡◌, ℕ, zero, suc, ◌+◌, ◌<◌, ◌≤◌, List, Option, None, Some, drop, get_or, length, refl, sym}
use Rattle.std.specs.List.{flat_map}
use Rattle.std.specs.Option.{option_map, option_to_list}
use Rattle.std.proofs.lemmas.Grind.{flat_map-append}
use Rattle.std.proofs.lemmas.List.{append-nil, drop_all, drop_more}
use Rattle.size_core.specs.declared.claim.Load.{Load}
use Rattle.size_core.specs.Gather.{gather}
use Rattle.size_model.specs.declared.view.LabelledClaim.{LabelledClaim}
use Rattle.claim_sheet.specs.Reaches.{claim_on, claim_on_some, of_addresses}
use Rattle.claim_sheet.specs.Sheets.{Sheet, adding}
use Rattle.claim_sheet.proofs.ListLemmas.{none_left}
use Rattle.claim_sheet.proofs.LoopLemmas.{list_goes}
use Rattle.data_sources.specs.declared.binary.Binary.{Binary}
use Rattle.data_sources.specs.Groups.{groups_of}
use Rattle.data_sources.specs.Loads.{loads_of}
use Rattle.data_sources.specs.Sources.{address_claims}

abbrev pub load_claim : List ℕ → Load → List LabelledClaim
load_claim name load = claim_on (of_addresses load) name

-- the load of one slot
of_slot : (name : List ℕ) (load : Option Load) → claim_on_some (option_map of_addresses load) name ≡ flat_map (load_claim name) (option_to_list load)
of_slot name None = refl
of_slot name (Some load) = sym (append-nil (load_claim name load))

of_slots : (name : List ℕ) (load : ℕ → Option Load) (i n : ℕ)
    → gather (λ k. claim_on_some (option_map of_addresses (load k)) name) i n ≡ flat_map (load_claim name) (gather (λ k. option_to_list (load k)) i n)
unfolding gather
of_slots name load i zero = refl
of_slots name load i (suc n) =
    rw (of_slot name (load i), of_slots name load (i + 1) n)
    (sym (flat_map-append (load_claim name) (option_to_list (load i)) (gather (λ k. option_to_list (load k)) (i + 1) n)))

-- the claims of all slots are those of the loads
pub by_loads : (name : List ℕ) (binary : Binary) → flat_map (load_claim name) (loads_of binary) ≡ address_claims name (groups_of binary)
unfolding loads_of address_claims
by_loads name binary = sym (of_slots name ((groups_of binary).load) 0 ((groups_of binary).slots))

-- a loop over the loads
pub loads_go : (name : List ℕ) (s t : Sheet) (loads : List Load) (i : ℕ) (load : Load) → i < length loads → t ≡ adding s (load_claim name (get_or loads i load))
    → adding t (flat_map (load_claim name) (drop (i + 1) loads)) ≡ adding s (flat_map (load_claim name) (drop i loads))
loads_go name s t loads i load lt e =
    rw (drop_more loads i load lt) (list_goes (load_claim name) s t (get_or loads i load) (drop (i + 1) loads) e)

pub loads_end : (name : List ℕ) (s : Sheet) (loads : List Load) (i : ℕ) → length loads ≤ i → adding s (flat_map (load_claim name) (drop i loads)) ≡ s
loads_end name s loads i le = none_left (load_claim name) s (drop i loads) (drop_all i loads le)
