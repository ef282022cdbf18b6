use Rattle.std.proofs.Common.{◌≡◌, ◌+◌, ◌≤◌, ◌++◌, ◌∷◌, [], length, ap, sym, subst, ◌∙◌, arith, length-append}
use Rattle.path_rows.specs.Parts.{Parts, all_of}
use Rattle.path_rows.specs.Rows.{FitTogether, IsSplit, with_rows}
use Rattle.path_rows.specs.Tree.{rows_in}
use Rattle.path_rows.proofs.Merging.{Strict}
use Rattle.path_rows.proofs.Trees.{high_strict, length-with_rows, low_strict}
use Rattle.path_rows.proofs.Unions.{appended, split_fits_high, split_fits_low, split_length, split_strict_high, split_strict_low, united}
use Rattle.path_rows.proofs.tree.+unite.Goals as goal

abbrev above : Parts → Parts
above p = record { low = []; row = p.row; high = p.high }

abbrev below : Parts → Parts
below p = record { low = p.low; row = p.row; high = [] }

pub unite-low-requires : goal.unite-low-requires
unite-low-requires t c =
    let top = c.in-Fork.top.value in
    let q = top.row in
    let rows : rows_in c.args.rows ≡ all_of top = ap rows_in c.in-Fork.is in
    let strict : Strict (all_of top) = subst Strict rows c.requires.ordered in
    let new = rows_in c.args.new in
    let grown = c.split-below.new.at.row in
    let low = rows_in c.split-below.result.0 in
    let high = rows_in c.split-below.result.1 in
    let part : IsSplit q grown new low high = subst (λ (p : Parts). IsSplit p.row grown new low high) c.deref_mut.ensures.value c.split-below.ensures.split in
    let fits : FitTogether (all_of top) new = subst (λ l. FitTogether l new) rows c.requires.fits in
    let second : c.deref_mut-in-Fork.result.now ≡ c.split-below.new.at = c.deref_mut-in-Fork.ensures.value in
    let old_low : rows_in c.take_low.result ≡ top.low = c.take_low.ensures.low ∙ (ap (λ (p : Parts). p.low) second ∙ (c.split-below.ensures.low ∙ ap (λ (p : Parts). p.low) c.deref_mut.ensures.value)) in
    let count = split_length q grown new low high part in
    let size = length-append top.low (q ∷ top.high) in
    let less : length (rows_in c.take_low.result) + 1 ≤ length (rows_in c.args.rows) = omega (arith, ap length rows, ap length old_low, size) in
    (omega (arith, less), (subst Strict (sym old_low) (low_strict top.low q top.high strict), (split_strict_low q grown new low high part c.requires.new_ordered, (subst (λ l. FitTogether l low) (sym old_low) (split_fits_low q grown new low high part top.low top.high fits), omega (arith, less, count, c.requires.count)))))

pub unite-high-requires : goal.unite-high-requires
unite-high-requires t c =
    let top = c.in-Fork.top.value in
    let q = top.row in
    let rows : rows_in c.args.rows ≡ all_of top = ap rows_in c.in-Fork.is in
    let strict : Strict (all_of top) = subst Strict rows c.requires.ordered in
    let new = rows_in c.args.new in
    let grown = c.split-below.new.at.row in
    let low = rows_in c.split-below.result.0 in
    let high = rows_in c.split-below.result.1 in
    let part : IsSplit q grown new low high = subst (λ (p : Parts). IsSplit p.row grown new low high) c.deref_mut.ensures.value c.split-below.ensures.split in
    let fits : FitTogether (all_of top) new = subst (λ l. FitTogether l new) rows c.requires.fits in
    let second : c.deref_mut-in-Fork.result.now ≡ c.split-below.new.at = c.deref_mut-in-Fork.ensures.value in
    let old_low : rows_in c.take_low.result ≡ top.low = c.take_low.ensures.low ∙ (ap (λ (p : Parts). p.low) second ∙ (c.split-below.ensures.low ∙ ap (λ (p : Parts). p.low) c.deref_mut.ensures.value)) in
    let count = split_length q grown new low high part in
    let size = length-append top.low (q ∷ top.high) in
    let third : c.deref_mut-in-Fork-2.result.now ≡ above c.split-below.new.at = c.deref_mut-in-Fork-2.ensures.value ∙ (c.take_low.ensures.rest ∙ ap above second) in
    let old_high : rows_in c.take_high.result ≡ top.high = c.take_high.ensures.high ∙ (ap (λ (p : Parts). p.high) third ∙ (c.split-below.ensures.high ∙ ap (λ (p : Parts). p.high) c.deref_mut.ensures.value)) in
    let less : length (rows_in c.take_high.result) + 1 ≤ length (rows_in c.args.rows) = omega (arith, ap length rows, ap length old_high, size) in
    (omega (arith, less), (subst Strict (sym old_high) (high_strict top.low q top.high strict), (split_strict_high q grown new low high part c.requires.new_ordered, (subst (λ l. FitTogether l high) (sym old_high) (split_fits_high q grown new low high part top.low top.high fits), omega (arith, less, count, c.requires.count)))))

pub join-requires-clause-count : goal.join-requires-clause-count
join-requires-clause-count t c =
    let top = c.in-Fork.top.value in
    let q = top.row in
    let rows : rows_in c.args.rows ≡ all_of top = ap rows_in c.in-Fork.is in
    let strict : Strict (all_of top) = subst Strict rows c.requires.ordered in
    let new = rows_in c.args.new in
    let grown = c.split-below.new.at.row in
    let low = rows_in c.split-below.result.0 in
    let high = rows_in c.split-below.result.1 in
    let part : IsSplit q grown new low high = subst (λ (p : Parts). IsSplit p.row grown new low high) c.deref_mut.ensures.value c.split-below.ensures.split in
    let fits : FitTogether (all_of top) new = subst (λ l. FitTogether l new) rows c.requires.fits in
    let second : c.deref_mut-in-Fork.result.now ≡ c.split-below.new.at = c.deref_mut-in-Fork.ensures.value in
    let old_low : rows_in c.take_low.result ≡ top.low = c.take_low.ensures.low ∙ (ap (λ (p : Parts). p.low) second ∙ (c.split-below.ensures.low ∙ ap (λ (p : Parts). p.low) c.deref_mut.ensures.value)) in
    let count = split_length q grown new low high part in
    let size = length-append top.low (q ∷ top.high) in
    let third : c.deref_mut-in-Fork-2.result.now ≡ above c.split-below.new.at = c.deref_mut-in-Fork-2.ensures.value ∙ (c.take_low.ensures.rest ∙ ap above second) in
    let old_high : rows_in c.take_high.result ≡ top.high = c.take_high.ensures.high ∙ (ap (λ (p : Parts). p.high) third ∙ (c.split-below.ensures.high ∙ ap (λ (p : Parts). p.high) c.deref_mut.ensures.value)) in
    omega (
      arith,
      ap length rows,
      ap length old_low,
      ap length old_high,
      size,
      count,
      c.requires.count,
      ap length c.unite-low.ensures,
      ap length c.unite-high.ensures,
      length-with_rows low (rows_in c.take_low.result),
      length-with_rows high (rows_in c.take_high.result),
    )

pub returns-in-Leaf : goal.returns-in-Leaf
returns-in-Leaf t c = sym (ap (λ l. with_rows l (rows_in c.args.new)) (ap rows_in c.in-Leaf.is) ∙ appended (rows_in c.args.new) [] c.requires.new_ordered)

pub returns-else-len-eq0 : goal.returns-else-len-eq0
returns-else-len-eq0 t c =
    let top = c.in-Fork.top.value in
    let q = top.row in
    let rows : rows_in c.args.rows ≡ all_of top = ap rows_in c.in-Fork.is in
    let strict : Strict (all_of top) = subst Strict rows c.requires.ordered in
    let new = rows_in c.args.new in
    let grown = c.split-below.new.at.row in
    let low = rows_in c.split-below.result.0 in
    let high = rows_in c.split-below.result.1 in
    let part : IsSplit q grown new low high = subst (λ (p : Parts). IsSplit p.row grown new low high) c.deref_mut.ensures.value c.split-below.ensures.split in
    let fits : FitTogether (all_of top) new = subst (λ l. FitTogether l new) rows c.requires.fits in
    let second : c.deref_mut-in-Fork.result.now ≡ c.split-below.new.at = c.deref_mut-in-Fork.ensures.value in
    let old_low : rows_in c.take_low.result ≡ top.low = c.take_low.ensures.low ∙ (ap (λ (p : Parts). p.low) second ∙ (c.split-below.ensures.low ∙ ap (λ (p : Parts). p.low) c.deref_mut.ensures.value)) in
    let count = split_length q grown new low high part in
    let size = length-append top.low (q ∷ top.high) in
    let third : c.deref_mut-in-Fork-2.result.now ≡ above c.split-below.new.at = c.deref_mut-in-Fork-2.ensures.value ∙ (c.take_low.ensures.rest ∙ ap above second) in
    let old_high : rows_in c.take_high.result ≡ top.high = c.take_high.ensures.high ∙ (ap (λ (p : Parts). p.high) third ∙ (c.split-below.ensures.high ∙ ap (λ (p : Parts). p.high) c.deref_mut.ensures.value)) in
    let row : c.take_high.new.self.row ≡ grown = ap (λ (p : Parts). p.row) (c.take_high.ensures.rest ∙ ap below third) in
    c.join.ensures
    ∙ (ap (λ r. rows_in c.unite-low.result ++ r ∷ rows_in c.unite-high.result) row
    ∙ (ap (λ l. l ++ grown ∷ rows_in c.unite-high.result) (c.unite-low.ensures ∙ ap (λ l. with_rows l low) old_low)
    ∙ (ap (λ l. with_rows top.low low ++ grown ∷ l) (c.unite-high.ensures ∙ ap (λ l. with_rows l high) old_high)
    ∙ (sym (united top.low top.high new low high q grown strict part) ∙ ap (λ l. with_rows l new) (sym rows)))))
