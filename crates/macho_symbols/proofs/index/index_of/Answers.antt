use Rattle.std.proofs.Common.{map, rules}
use Rattle.std.proofs.lemmas.List.Sorted.{IsNonDecreasingBy-from_sort_by_key, answers_always}
use Rattle.macho_symbols.specs.declared.index.Key.{Key}
use Rattle.macho_symbols.specs.Shown.{placed_shown}
use Rattle.macho_symbols.proofs.IndexLemmas.{is_index}
use Rattle.macho_symbols.proofs.index.index_of.Goals as goal

pub returns-clause-index : goal.returns-clause-index
returns-clause-index c =
    is_index (map placed_shown c.args.symbols.now) _ _ c.in_ok-keys.ensures.keys c.in_ok-sort_by_key.ensures.permutation
    (IsNonDecreasingBy-from_sort_by_key (λ (k : Key). k.position) _ c.in_ok-sort_by_key.ensures.sorted (λ a r q k. search rules))
    (c.sort_by_key.ensures.stable (λ (k : Key). k.position) (answers_always _ _ _ (λ f a r g h. search rules)))
