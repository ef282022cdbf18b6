use Rattle.std.proofs.Common.{◌≡◌, length, take, sym, subst, arith, rules}
use Rattle.std.specs.Prelude.{true}
use Rattle.std.specs.Ordering.{is_le}
use Rattle.std.proofs.lemmas.List.Sorted.{IsPartitionPoint-from_clause}
use Rattle.std.proofs.lemmas.List.{get_or-take, length-take-le}
use Rattle.path_rows.specs.declared.row.RollupRow.{RollupRow}
use Rattle.path_rows.specs.Paths.{path_cmp}
use Rattle.path_rows.proofs.Merging.{ends_all, last_first, none_first, rising_parts}
use Rattle.path_rows.proofs.merge.count_below.Goals as goal

pub returns-in-Some-clause-ends : goal.returns-in-Some-clause-ends
returns-in-Some-clause-ends c =
    let rows = c.args.rows.now in
    let kept = c.partition_point.result in
    let row = c.in-Some.row.now in
    let count = length-take-le kept rows (omega arith) in
    let split = IsPartitionPoint-from_clause (λ (q : RollupRow). is_le (path_cmp q.path row.path)) rows kept c.partition_point.ensures.partitioned (rising_parts rows row c.requires) (λ a r f k. search rules) in
    last_first (take kept rows) c.args.new.now row (sym c.in-Some.ensures.value) (ends_all (take kept rows) row (λ k d lt.
    subst (λ (q : RollupRow). is_le (path_cmp q.path row.path) ≡ true) (sym (get_or-take kept rows k d (omega arith))) (split.0 k d (omega arith) (omega arith))))

pub returns-in-None-clause-ends : goal.returns-in-None-clause-ends
returns-in-None-clause-ends c = none_first (take (length c.args.rows.now) c.args.rows.now) c.args.new.now (sym c.in-None.ensures.value)
