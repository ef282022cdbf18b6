use Rattle.std.proofs.Common.{◌<◌, ℕ, List, [], length, sym, ap, subst, ◌∙◌, arith}
use Rattle.std.specs.Prelude.{All}
use Rattle.std.proofs.lemmas.Option.{get_or_from_slice_get}
use Rattle.path_rows.specs.declared.row.RollupRow.{RollupRow}
use Rattle.rollup.specs.Sizes.{Entry, entry_of, no_entry, row_of}
use Rattle.rollup.proofs.Gathered.{file-fits, vm-fits}
use Rattle.rollup.proofs.fresh.row_at.Goals as goal

pub spell-requires : goal.spell-requires
spell-requires c =
    let here = get_or_from_slice_get c.args.file.sizes.now c.args.i (entry_of c.get.result.0.now c.get.result.1) no_entry c.get.ensures in
    subst (λ (e : Entry). All (λ n. n < length c.args.file.pool.now) e.numbers) here (c.requires.rows.below c.args.i no_entry c.requires.within)

pub overflow_cast-result : goal.overflow_cast-result
overflow_cast-result c =
    let here = get_or_from_slice_get c.args.file.sizes.now c.args.i (entry_of c.get.result.0.now c.get.result.1) no_entry c.get.ensures in
    omega (arith, ap (λ (e : Entry). e.vm) here, vm-fits c.args.file.pool.now [] c.args.file.sizes.now c.requires.rows.fits c.args.i no_entry c.requires.within)

pub overflow_cast-result-2 : goal.overflow_cast-result-2
overflow_cast-result-2 c =
    let here = get_or_from_slice_get c.args.file.sizes.now c.args.i (entry_of c.get.result.0.now c.get.result.1) no_entry c.get.ensures in
    omega (arith, ap (λ (e : Entry). e.file) here, file-fits c.args.file.pool.now [] c.args.file.sizes.now c.requires.rows.fits c.args.i no_entry c.requires.within)

pub returns : goal.returns
returns c =
    let es = c.args.file.sizes.now in
    let pool = c.args.file.pool.now in
    let here = get_or_from_slice_get es c.args.i (entry_of c.get.result.0.now c.get.result.1) no_entry c.get.ensures in
    let row : List (List ℕ) → RollupRow = λ p. record { path = p; vm = c.get.result.1.vm; file = c.get.result.1.file } in
    ap row c.in_ok-spell.ensures ∙ ap (row_of pool) (sym here)
