-- The loads of a Mach-O file: the parts that are mapped at virtual addresses.
use Rattle.std.specs.Prelude.{ℕ, ◌==◌, List, length, Option, None, Some, slice_get, if◌then◌else◌}
use Rattle.std.specs.Option.{option_and_then, option_to_list}
use Rattle.size_core.specs.declared.claim.Load.{Load}
use Rattle.size_core.specs.Gather.{gather}
use Rattle.macho_file.specs.Tables.{SegmentRecord, segments}

-- A segment as a load, unless its memory can never be accessed: maxprot is 0, as for `__PAGEZERO`. All loads share one
-- address space (mach-o/loader.h, `segment_command`, `maxprot`).
unfoldable pub segment_load : SegmentRecord → Option Load
segment_load s =
    if s.maxprot == 0 then None
    else Some (record { space = 0; vaddr = s.vaddr; memsz = s.memsz; offset = s.offset; filesz = s.filesz })

-- The number of slots: the segments (mach-o/loader.h, `segment_command`).
unfoldable pub slot_count : List ℕ → ℕ
slot_count file = length (segments file)

-- Slot i as a load: segment i, if it is one (mach-o/loader.h, `segment_command`, `maxprot`).
unfoldable pub slot_load : List ℕ → ℕ → Option Load
slot_load file i = option_and_then segment_load (slice_get (segments file) i)

-- All loads, in the order of the slots.
unfoldable pub loads_of : List ℕ → List Load
loads_of file = gather (λ i. option_to_list (slot_load file i)) 0 (slot_count file)
