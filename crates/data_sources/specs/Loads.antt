-- The loads of a file: the parts that are mapped at virtual addresses.
use Rattle.std.specs.Prelude.{ℕ, List, Option}
use Rattle.std.specs.Option.{option_to_list}
use Rattle.size_core.specs.declared.claim.Load.{Load}
use Rattle.size_core.specs.Gather.{gather}
use Rattle.data_sources.specs.declared.binary.Binary.{Binary}
use Rattle.data_sources.specs.Groups.{groups_of}

-- The number of slots. Each may be a load.
abbrev pub slots_of : Binary → ℕ
slots_of binary = (groups_of binary).slots

-- Slot i as a load, if it is one.
abbrev pub load_in : Binary → ℕ → Option Load
load_in binary i = (groups_of binary).load i

-- All loads, in the order of the slots.
unfoldable pub loads_of : Binary → List Load
loads_of binary = gather (λ i. option_to_list (load_in binary i)) 0 (slots_of binary)
