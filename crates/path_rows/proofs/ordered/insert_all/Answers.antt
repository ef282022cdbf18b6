use Rattle.std.proofs.Common.{◌≡◌, ◌+◌, ◌-◌, ◌<◌, ◌^◌, ◌++◌, List, length, map, reverse, ap, sym, subst, ◌∙◌, arith}
use Rattle.std.proofs.lemmas.List.{length-map}
use Rattle.path_rows.specs.declared.row.RollupRow.{RollupRow}
use Rattle.path_rows.specs.Rows.{FitTogether, RisesFrom, with_rows}
use Rattle.path_rows.specs.Tree.{rows_in}
use Rattle.path_rows.proofs.Merging.{Strict, strict_rows}
use Rattle.path_rows.proofs.Unions.{left_count, left_fits, rising_strict, run_fits, run_same}
use Rattle.path_rows.proofs.ordered.insert_all.Goals as goal

pub unite-requires-clause-new_ordered : goal.unite-requires-clause-new_ordered
unite-requires-clause-new_ordered c =
    let items = c.loop-branches.branches.items in
    let rows : List RollupRow = map (λ b. b.value.row) items in
    let left : List RollupRow = map (λ b. b.value.row) c.build-run.new.branches.items in
    let run = rows_in c.build-run.result in
    let cut : rows ≡ left ++ reverse run = c.build-run.ensures.rows in
    let before = rows_in c.loop-branches.tree in
    let risen : RisesFrom rows (length items - c.rising-count.result) =
    subst (λ l. RisesFrom (map (λ b. b.value.row) l) (length l - c.rising-count.result)) c.as_slice.ensures.value c.rising-count.ensures.rising in
    let same : length items - c.rising-count.result ≡ length rows - length run = omega (arith, length-map items (λ b. b.value.row), c.build-run.ensures.count) in
    rising_strict rows left run cut (subst (RisesFrom rows) same risen)

pub unite-requires-clause-fits : goal.unite-requires-clause-fits
unite-requires-clause-fits c =
    let items = c.loop-branches.branches.items in
    let rows : List RollupRow = map (λ b. b.value.row) items in
    let left : List RollupRow = map (λ b. b.value.row) c.build-run.new.branches.items in
    let run = rows_in c.build-run.result in
    let cut : rows ≡ left ++ reverse run = c.build-run.ensures.rows in
    let before = rows_in c.loop-branches.tree in
    subst (λ t. FitTogether (rows_in t) run) (sym c.replace-rows.ensures.value) (run_fits rows left run cut before c.loop-branches.invariant.fits)

pub loop-branches-preserved : goal.loop-branches-preserved
loop-branches-preserved c =
    let items = c.loop-branches.branches.items in
    let rows : List RollupRow = map (λ b. b.value.row) items in
    let left : List RollupRow = map (λ b. b.value.row) c.build-run.new.branches.items in
    let run = rows_in c.build-run.result in
    let cut : rows ≡ left ++ reverse run = c.build-run.ensures.rows in
    let before = rows_in c.loop-branches.tree in
    let after = rows_in c.unite.result in
    let made : after ≡ with_rows before run = c.unite.ensures ∙ ap (λ t. with_rows (rows_in t) run) c.replace-rows.ensures.value in
    let total : length before + length rows < 2 ^ 64 = omega (arith, length-map items (λ b. b.value.row), c.loop-branches.invariant.count) in
    let fewer : length after + length left < 2 ^ 64 = left_count rows left run cut before after made total in
    record {
      alone = c.build-run.ensures.alone;
      ordered = subst Strict (sym made) (strict_rows run before c.loop-branches.invariant.ordered);
      fits = left_fits rows left run cut before after made c.loop-branches.invariant.fits;
      count = omega (arith, fewer, length-map c.build-run.new.branches.items (λ b. b.value.row));
      same = run_same rows left run cut before after made _ c.loop-branches.invariant.same;
    }
