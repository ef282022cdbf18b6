-- The search ends at the first section of the table, if it has one.
use Rattle.std.proofs.Common.{sym, ltb, rules}
use Rattle.std.proofs.lemmas.List.Sorted.{IsPartitionPoint-from_clause, IsPartitionedBy-ltb}
use Rattle.elf_symbols.specs.declared.numbers.TableNumbers.{TableNumbers}
use Rattle.elf_symbols.proofs.NumbersLemmas.{ended, found, passed}
use Rattle.elf_symbols.proofs.numbers.first_for.Goals as goal

abbrev none : TableNumbers
none = record { table = 0; section = 0 }

pub returns-then-at-known : goal.returns-then-at-known
returns-then-at-known c =
    let point = IsPartitionPoint-from_clause (λ n. ltb n.table c.args.i) _ _ c.partition_point-at.ensures.partitioned (IsPartitionedBy-ltb (λ (n : TableNumbers). n.table) _ c.args.i c.requires) (λ a r q k. search rules) in
    sym (ended _ _ _ c.requires c.partition_point-at.ensures.bound point c.if-at-known.true)

pub returns-then-numbers-i : goal.returns-then-numbers-i
returns-then-numbers-i c =
    let point = IsPartitionPoint-from_clause (λ n. ltb n.table c.args.i) _ _ c.partition_point-at.ensures.partitioned (IsPartitionedBy-ltb (λ (n : TableNumbers). n.table) _ c.args.i c.requires) (λ a r q k. search rules) in
    sym (passed _ _ _ c.requires c.partition_point-at.ensures.bound point none c.if-at-known.false c.if-numbers-i.true)

pub returns : goal.returns
returns c =
    let point = IsPartitionPoint-from_clause (λ n. ltb n.table c.args.i) _ _ c.partition_point-at.ensures.partitioned (IsPartitionedBy-ltb (λ (n : TableNumbers). n.table) _ c.args.i c.requires) (λ a r q k. search rules) in
    sym (found _ _ _ c.requires c.partition_point-at.ensures.bound point none c.if-at-known.false c.if-numbers-i.false)
