use Rattle.std.proofs.Common.{map, ltb, rules}
use Rattle.std.proofs.lemmas.List.Sorted.{IsPartitionPoint-from_clause, IsPartitionedBy-ltb}
use Rattle.macho_symbols.specs.declared.index.Key.{Key}
use Rattle.macho_symbols.specs.Shown.{placed_shown}
use Rattle.macho_symbols.proofs.FirstLemmas.{first_below, first_decides}
use Rattle.macho_symbols.proofs.spans.is_first.Goals as goal

pub bounds-keys-first : goal.bounds-keys-first
bounds-keys-first c =
    let before = IsPartitionPoint-from_clause (λ k. ltb k.position c.position-at.result) _ _ c.partition_point-first.ensures.partitioned (IsPartitionedBy-ltb (λ (k : Key). k.position) _ c.position-at.result c.requires.index.rises) (λ a r q k. search rules) in
    first_below (map placed_shown c.args.symbols.now) c.args.keys.now c.args.i (placed_shown c.args.symbol.now) c.partition_point-first.result (record { position = 0; number = 0 })
    c.requires.index c.requires.addresses c.requires.symbol (rw (← c.position-at.ensures.value) before)

pub returns : goal.returns
returns c =
    let before = IsPartitionPoint-from_clause (λ k. ltb k.position c.position-at.result) _ _ c.partition_point-first.ensures.partitioned (IsPartitionedBy-ltb (λ (k : Key). k.position) _ c.position-at.result c.requires.index.rises) (λ a r q k. search rules) in
    first_decides (map placed_shown c.args.symbols.now) c.args.keys.now c.args.i (placed_shown c.args.symbol.now) c.partition_point-first.result (record { position = 0; number = 0 })
    c.requires.index c.requires.addresses c.requires.symbol (rw (← c.position-at.ensures.value) before)
