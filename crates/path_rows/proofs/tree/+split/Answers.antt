use Rattle.std.proofs.Common.{◌≡◌, ◌+◌, ◌≤◌, ◌++◌, ◌∷◌, [], length, ap, sym, subst, ◌∙◌, arith, length-append}
use Rattle.std.specs.declared.cmp.Ordering.TheVariants.{Less, Equal, Greater}
use Rattle.path_rows.specs.declared.row.RollupRow.{RollupRow}
use Rattle.path_rows.specs.Paths.{row_cmp}
use Rattle.path_rows.specs.Parts.{Parts, all_of, alone}
use Rattle.path_rows.specs.Rows.{FitTogether, IsSplit, larger}
use Rattle.path_rows.specs.Tree.{rows_in}
use Rattle.path_rows.proofs.Merging.{Strict}
use Rattle.path_rows.proofs.Trees.{high_strict, low_strict}
use Rattle.path_rows.proofs.Unions.{part_high_fits, part_low_fits, split_equal, split_greater, split_less}
use Rattle.path_rows.proofs.tree.+split.Goals as goal

abbrev above : Parts → Parts
above p = record { low = []; row = p.row; high = p.high }

abbrev below : Parts → Parts
below p = record { low = p.low; row = p.row; high = [] }

pub split-below-requires : goal.split-below-requires
split-below-requires t c =
    let top = c.in-Fork.top.value in
    let rows : rows_in c.args.rows ≡ all_of top = ap rows_in c.in-Fork.is in
    let strict : Strict (all_of top) = subst Strict rows c.requires.ordered in
    let low : rows_in c.take_low-low.result ≡ top.low = c.take_low-low.ensures.low ∙ ap (λ (p : Parts). p.low) c.deref_mut.ensures.value in
    let second : c.deref_mut-in-Fork.result.now ≡ above top = c.deref_mut-in-Fork.ensures.value ∙ (c.take_low-low.ensures.rest ∙ ap above c.deref_mut.ensures.value) in
    let high : rows_in c.take_high-high.result ≡ top.high = c.take_high-high.ensures.high ∙ ap (λ (p : Parts). p.high) second in
    let fits : FitTogether (all_of c.args.at.now) (all_of top) = subst (FitTogether (all_of c.args.at.now)) rows c.requires.fits in
    let less : length (rows_in c.take_low-low.result) + 1 ≤ length (rows_in c.args.rows) = omega (arith, ap length rows, ap length low, length-append top.low (top.row ∷ top.high)) in
    (omega (arith, less), (subst Strict (sym low) (low_strict top.low top.row top.high strict), (subst (FitTogether (all_of c.args.at.now)) (sym low) (part_low_fits (all_of c.args.at.now) top.low top.row top.high fits), omega (arith, less, c.requires.count))))

pub split-below-requires-in-Greater : goal.split-below-requires-in-Greater
split-below-requires-in-Greater t c =
    let top = c.in-Fork.top.value in
    let rows : rows_in c.args.rows ≡ all_of top = ap rows_in c.in-Fork.is in
    let strict : Strict (all_of top) = subst Strict rows c.requires.ordered in
    let low : rows_in c.take_low-low.result ≡ top.low = c.take_low-low.ensures.low ∙ ap (λ (p : Parts). p.low) c.deref_mut.ensures.value in
    let second : c.deref_mut-in-Fork.result.now ≡ above top = c.deref_mut-in-Fork.ensures.value ∙ (c.take_low-low.ensures.rest ∙ ap above c.deref_mut.ensures.value) in
    let high : rows_in c.take_high-high.result ≡ top.high = c.take_high-high.ensures.high ∙ ap (λ (p : Parts). p.high) second in
    let fits : FitTogether (all_of c.args.at.now) (all_of top) = subst (FitTogether (all_of c.args.at.now)) rows c.requires.fits in
    let less : length (rows_in c.take_high-high.result) + 1 ≤ length (rows_in c.args.rows) = omega (arith, ap length rows, ap length high, length-append top.low (top.row ∷ top.high)) in
    (omega (arith, less), (subst Strict (sym high) (high_strict top.low top.row top.high strict), (subst (FitTogether (all_of c.args.at.now)) (sym high) (part_high_fits (all_of c.args.at.now) top.low top.row top.high fits), omega (arith, less, c.requires.count))))

pub returns-in-Less-clause-split : goal.returns-in-Less-clause-split
returns-in-Less-clause-split t c =
    let q = c.args.at.now.row in
    let grown = c.split-below.new.at.row in
    let top = c.in-Fork.top.value in
    let rows : rows_in c.args.rows ≡ all_of top = ap rows_in c.in-Fork.is in
    let strict : Strict (all_of top) = subst Strict rows c.requires.ordered in
    let low : rows_in c.take_low-low.result ≡ top.low = c.take_low-low.ensures.low ∙ ap (λ (p : Parts). p.low) c.deref_mut.ensures.value in
    let second : c.deref_mut-in-Fork.result.now ≡ above top = c.deref_mut-in-Fork.ensures.value ∙ (c.take_low-low.ensures.rest ∙ ap above c.deref_mut.ensures.value) in
    let high : rows_in c.take_high-high.result ≡ top.high = c.take_high-high.ensures.high ∙ ap (λ (p : Parts). p.high) second in
    let rest : c.take_high-high.new.self ≡ alone top.row = c.take_high-high.ensures.rest ∙ ap below second in
    let order : row_cmp q top.row ≡ Less = ap (λ (p : Parts). row_cmp q p.row) (sym (c.deref.ensures ∙ rest)) ∙ (sym c.compare.ensures ∙ c.in-Less.is) in
    let below = rows_in c.split-below.result.0 in
    let above = rows_in c.split-below.result.1 in
    let part : IsSplit q grown top.low below above = subst (λ l. IsSplit q grown l below above) low c.split-below.ensures.split in
    let joined : all_of c.join.result.value ≡ above ++ top.row ∷ top.high =
    c.join.ensures ∙ (ap (λ (p : Parts). above ++ p.row ∷ rows_in c.take_high-high.result) rest ∙ ap (λ l. above ++ top.row ∷ l) high) in
    subst (λ l. IsSplit q grown l below (all_of c.join.result.value)) (sym rows) (subst (IsSplit q grown (all_of top) below) (sym joined) (split_less q grown top.row top.low top.high strict below above order part))

pub returns-in-Equal-clause-split : goal.returns-in-Equal-clause-split
returns-in-Equal-clause-split t c =
    let q = c.args.at.now.row in
    let grown = c.enlarge.new.self.row in
    let top = c.in-Fork.top.value in
    let rows : rows_in c.args.rows ≡ all_of top = ap rows_in c.in-Fork.is in
    let strict : Strict (all_of top) = subst Strict rows c.requires.ordered in
    let low : rows_in c.take_low-low.result ≡ top.low = c.take_low-low.ensures.low ∙ ap (λ (p : Parts). p.low) c.deref_mut.ensures.value in
    let second : c.deref_mut-in-Fork.result.now ≡ above top = c.deref_mut-in-Fork.ensures.value ∙ (c.take_low-low.ensures.rest ∙ ap above c.deref_mut.ensures.value) in
    let high : rows_in c.take_high-high.result ≡ top.high = c.take_high-high.ensures.high ∙ ap (λ (p : Parts). p.high) second in
    let rest : c.take_high-high.new.self ≡ alone top.row = c.take_high-high.ensures.rest ∙ ap below second in
    let order : row_cmp q top.row ≡ Equal = ap (λ (p : Parts). row_cmp q p.row) (sym (c.deref.ensures ∙ rest)) ∙ (sym c.compare.ensures ∙ c.in-Equal.is) in
    let added : c.behind-top.inside.row ≡ top.row = ap (λ (p : Parts). p.row) (c.behind-top.view_is ∙ (c.deref-in-Equal.ensures ∙ rest)) in
    let sum : grown ≡ larger q top.row = ap (λ (p : Parts). p.row) c.enlarge.ensures ∙ ap (larger q) added in
    subst (λ l. IsSplit q grown l (rows_in c.take_low-low.result) (rows_in c.take_high-high.result)) (sym rows)
    (subst (λ l. IsSplit q grown (all_of top) l (rows_in c.take_high-high.result)) (sym low) (subst (IsSplit q grown (all_of top) top.low) (sym high) (split_equal q grown top.row top.low top.high strict order sum)))

pub returns-in-Greater-clause-split : goal.returns-in-Greater-clause-split
returns-in-Greater-clause-split t c =
    let q = c.args.at.now.row in
    let grown = c.split-below-in-Greater.new.at.row in
    let top = c.in-Fork.top.value in
    let rows : rows_in c.args.rows ≡ all_of top = ap rows_in c.in-Fork.is in
    let strict : Strict (all_of top) = subst Strict rows c.requires.ordered in
    let low : rows_in c.take_low-low.result ≡ top.low = c.take_low-low.ensures.low ∙ ap (λ (p : Parts). p.low) c.deref_mut.ensures.value in
    let second : c.deref_mut-in-Fork.result.now ≡ above top = c.deref_mut-in-Fork.ensures.value ∙ (c.take_low-low.ensures.rest ∙ ap above c.deref_mut.ensures.value) in
    let high : rows_in c.take_high-high.result ≡ top.high = c.take_high-high.ensures.high ∙ ap (λ (p : Parts). p.high) second in
    let rest : c.take_high-high.new.self ≡ alone top.row = c.take_high-high.ensures.rest ∙ ap below second in
    let order : row_cmp q top.row ≡ Greater = ap (λ (p : Parts). row_cmp q p.row) (sym (c.deref.ensures ∙ rest)) ∙ (sym c.compare.ensures ∙ c.in-Greater.is) in
    let below = rows_in c.split-below-in-Greater.result.0 in
    let above = rows_in c.split-below-in-Greater.result.1 in
    let part : IsSplit q grown top.high below above = subst (λ l. IsSplit q grown l below above) high c.split-below-in-Greater.ensures.split in
    let joined : all_of c.join-in-Greater.result.value ≡ top.low ++ top.row ∷ below =
    c.join-in-Greater.ensures ∙ (ap (λ (p : Parts). rows_in c.take_low-low.result ++ p.row ∷ below) rest ∙ ap (λ l. l ++ top.row ∷ below) low) in
    subst (λ l. IsSplit q grown l (all_of c.join-in-Greater.result.value) above) (sym rows) (subst (λ l. IsSplit q grown (all_of top) l above) (sym joined) (split_greater q grown top.row top.low top.high strict below above order part))
