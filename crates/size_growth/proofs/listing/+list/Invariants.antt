use Rattle.std.proofs.Common.{◌≡◌, ◌-◌, ◌+◌, ◌∷◌, ◌++◌, map, take}
use Rattle.std.specs.List.{flat_map}
use Rattle.size_growth.specs.Groups.{group_entry}
use Rattle.size_growth.specs.Rows.{Entry, listing, row_of}
use Rattle.size_growth.proofs.listing.+list.Given as goal

abbrev pub decreases-list : goal.decreases-list
decreases-list l = l.levels.depth - l.level

-- The rows of the groups so far.
abbrev pub invariant-loop-group : goal.invariant-loop-group
invariant-loop-group l =
    l.out ≡ l.initial.out ++ flat_map (λ (e : Entry). row_of l.level e ∷ listing l.levels.options (l.levels.depth - (l.level + 1)) (l.level + 1) e.below) (map (group_entry l.level l.paths) (take l.group-index l.group-items))
