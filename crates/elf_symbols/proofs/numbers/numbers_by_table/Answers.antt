use Rattle.std.proofs.Common.{rules}
use Rattle.std.proofs.lemmas.List.Sorted.{IsNonDecreasingBy-from_sort_by_key, answers_always}
use Rattle.elf_symbols.specs.declared.numbers.TableNumbers.{TableNumbers}
use Rattle.elf_symbols.proofs.NumbersLemmas.{is_numbers_index}
use Rattle.elf_symbols.proofs.numbers.numbers_by_table.Goals as goal

pub returns : goal.returns
returns c =
    is_numbers_index c.args.file.now _ _ c.in_ok-known.ensures
    (IsNonDecreasingBy-from_sort_by_key (λ (n : TableNumbers). n.table) _ c.in_ok-sort_by_key.ensures.sorted (λ a r q k. search rules))
    (c.sort_by_key.ensures.stable (λ (n : TableNumbers). n.table) (answers_always _ _ _ (λ f a r g h. search rules)))
