use Rattle.std.proofs.Common.{[], map, get_or, sym, leb, arith, rules}
use Rattle.std.proofs.lemmas.List.Sorted.{IsPartitionPoint-from_clause, IsPartitionedBy-leb}
use Rattle.std.proofs.lemmas.List.{length-map}
use Rattle.macho_symbols.specs.declared.index.Key.{Key}
use Rattle.macho_symbols.specs.declared.symbol.PlacedSymbol.{PlacedSymbol}
use Rattle.macho_symbols.specs.Shown.{placed_shown}
use Rattle.macho_symbols.proofs.LeastLemmas.{none_behind, number_within, next_here, none_here, shown_get}
use Rattle.macho_symbols.proofs.spans.next_value.Goals as goal

pub returns-then-next-keys : goal.returns-then-next-keys
returns-then-next-keys c =
    let d : Key = record { position = 0; number = 0 } in
    let above = IsPartitionPoint-from_clause (λ k. leb k.position c.position-at.result) _ _ c.partition_point-next.ensures.partitioned (IsPartitionedBy-leb (λ (k : Key). k.position) _ c.position-at.result c.requires.index.rises) (λ a r q k. search rules) in
    let point = rw c.position-at.ensures.value at above in
    sym (none_behind (map placed_shown c.args.symbols.now) c.args.keys.now (placed_shown c.args.symbol.now) c.partition_point-next.result d
    c.requires.index c.requires.addresses c.position-at.ensures.address point c.if-next-keys.true)

pub bounds-symbols-keys : goal.bounds-symbols-keys
bounds-symbols-keys c =
    let d : Key = record { position = 0; number = 0 } in
    let above = IsPartitionPoint-from_clause (λ k. leb k.position c.position-at.result) _ _ c.partition_point-next.ensures.partitioned (IsPartitionedBy-leb (λ (k : Key). k.position) _ c.position-at.result c.requires.index.rises) (λ a r q k. search rules) in
    let point = rw c.position-at.ensures.value at above in
    let within = number_within (map placed_shown c.args.symbols.now) c.args.keys.now (placed_shown c.args.symbol.now) c.partition_point-next.result d
    c.requires.index c.requires.addresses c.position-at.ensures.address point c.if-next-keys.false in
    omega (arith, within, length-map c.args.symbols.now placed_shown)

pub returns-then-other-symbol : goal.returns-then-other-symbol
returns-then-other-symbol c =
    let d : Key = record { position = 0; number = 0 } in
    let above = IsPartitionPoint-from_clause (λ k. leb k.position c.position-at.result) _ _ c.partition_point-next.ensures.partitioned (IsPartitionedBy-leb (λ (k : Key). k.position) _ c.position-at.result c.requires.index.rises) (λ a r q k. search rules) in
    let point = rw c.position-at.ensures.value at above in
    let e : PlacedSymbol = record { place = 0; name = record { ref_ptr = (0, 0); now = [] }; name_place = 0; kind = 0; sect = 0; value = 0 } in
    let all = map placed_shown c.args.symbols.now in
    let n = (get_or c.args.keys.now c.partition_point-next.result d).number in
    let within = number_within all c.args.keys.now (placed_shown c.args.symbol.now) c.partition_point-next.result d
    c.requires.index c.requires.addresses c.position-at.ensures.address point c.if-next-keys.false in
    sym (next_here all c.args.keys.now (placed_shown c.args.symbol.now) c.partition_point-next.result d
    c.requires.index c.requires.addresses c.position-at.ensures.address point c.if-next-keys.false (placed_shown (get_or c.args.symbols.now n e)) (shown_get c.args.symbols.now n e within) c.if-other-symbol.true)

pub returns-else-other-symbol : goal.returns-else-other-symbol
returns-else-other-symbol c =
    let d : Key = record { position = 0; number = 0 } in
    let above = IsPartitionPoint-from_clause (λ k. leb k.position c.position-at.result) _ _ c.partition_point-next.ensures.partitioned (IsPartitionedBy-leb (λ (k : Key). k.position) _ c.position-at.result c.requires.index.rises) (λ a r q k. search rules) in
    let point = rw c.position-at.ensures.value at above in
    let e : PlacedSymbol = record { place = 0; name = record { ref_ptr = (0, 0); now = [] }; name_place = 0; kind = 0; sect = 0; value = 0 } in
    let all = map placed_shown c.args.symbols.now in
    let n = (get_or c.args.keys.now c.partition_point-next.result d).number in
    let within = number_within all c.args.keys.now (placed_shown c.args.symbol.now) c.partition_point-next.result d
    c.requires.index c.requires.addresses c.position-at.ensures.address point c.if-next-keys.false in
    sym (none_here all c.args.keys.now (placed_shown c.args.symbol.now) c.partition_point-next.result d
    c.requires.index c.requires.addresses c.position-at.ensures.address point c.if-next-keys.false (placed_shown (get_or c.args.symbols.now n e)) (shown_get c.args.symbols.now n e within) c.if-other-symbol.false)
