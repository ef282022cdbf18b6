use Rattle.std.proofs.Common.{◌≡◌, ◌++◌, ◌≤◌, ◌∷◌, [], List, length, drop, take, reverse, sym, ap, subst, ◌∙◌, arith, rules}
use Rattle.std.specs.Ordering.{is_gt}
use Rattle.std.specs.Prelude.{Bool, true, false}
use Rattle.std.specs.List.Sorted.{IsPartitionedBy, IsPartitionPoint}
use Rattle.std.proofs.lemmas.List.Sorted.{IsPartitionPoint-from_clause}
use Rattle.path_rows.specs.declared.row.RollupRow.{RollupRow}
use Rattle.path_rows.specs.Paths.{path_cmp}
use Rattle.path_rows.specs.Rows.{EndsUpto, FitTogether, pushed}
use Rattle.path_rows.proofs.Merging.{falling_parts, front_fits, inserted, moved_same, upto_pushed}
use Rattle.path_rows.proofs.merge.insert.Goals as goal

pub push-requires-clause-fits : goal.push-requires-clause-fits
push-requires-clause-fits c =
    let rows = c.args.rows.now.items in
    let above = c.args.above.now.items in
    let kept = c.partition_point-kept.result in
    subst (λ (l : List RollupRow). FitTogether l (c.args.row ∷ [])) (sym c.move_after.ensures.to) (front_fits (rows ++ reverse (drop kept above)) (reverse (take kept above)) (rows ++ reverse above) (c.args.row ∷ []) (moved_same rows above kept) c.requires.fits)

pub returns-clause-rows : goal.returns-clause-rows
returns-clause-rows c =
    let rows = c.args.rows.now.items in
    let above = c.args.above.now.items in
    let kept = c.partition_point-kept.result in
    let there = c.deref.ensures.value in
    let within : kept ≤ length above = omega (arith, ap length there) in
    let test : RollupRow → Bool = λ q. is_gt (path_cmp q.path c.args.row.path) in
    let parted = subst (IsPartitionedBy test) (sym there) (falling_parts rows above c.args.row c.requires.ordered) in
    let split = subst (λ l. IsPartitionPoint (λ q. test q ≡ true) (λ q. test q ≡ false) l kept) there (IsPartitionPoint-from_clause test c.deref.result.now kept c.partition_point-kept.ensures.partitioned parted (λ a r f k. search rules)) in
    ap (λ l. l ++ reverse c.move_after.new.rows.items) (c.push.ensures.rows ∙ ap (λ l. pushed l c.args.row) c.move_after.ensures.to)
    ∙ (ap (λ l. pushed (rows ++ reverse (drop kept above)) c.args.row ++ reverse l) c.move_after.ensures.rows
    ∙ inserted rows above c.args.row kept c.requires.ordered c.requires.ends within split)

pub returns-clause-ends : goal.returns-clause-ends
returns-clause-ends c = λ s lt. subst (λ l. EndsUpto l s) (sym c.push.ensures.rows) (upto_pushed c.move_after.new.to.items c.args.row s lt)
