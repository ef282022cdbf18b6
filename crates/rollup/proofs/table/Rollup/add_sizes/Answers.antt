use Rattle.std.proofs.Common.{◌≡◌, ◌+◌, List, map, length, sym, subst, ap, ◌∙◌, arith}
use Rattle.std.specs.Prelude.{All}
use Rattle.size_model.specs.Numbered.{text_of}
use Rattle.path_rows.specs.Rows.{Merges}
use Rattle.path_rows.specs.Sums.{file_where, vm_where}
use Rattle.rollup.specs.declared.cursor.Part.TheVariants.{File, Vm}
use Rattle.rollup.specs.Files.{CountedFile}
use Rattle.rollup.specs.Sizes.{Entry, IsEntry, row_of, weight}
use Rattle.rollup.specs.Totals.{Totals}
use Rattle.rollup.proofs.Totalling.{file_added, fit_together, merges_moved, moved_fits, new_totals, vm_added}
use Rattle.rollup.proofs.table.Rollup.add_sizes.Goals as goal

pub add-requires-clause-fits : goal.add-requires-clause-fits
add-requires-clause-fits c =
    let es = c.counted.inside.sizes in
    let lengths : c.self.inside.lengths ≡ c.args.self.now.lengths = ap (λ (t : Totals). t.lengths) c.self.view_is in
    let mapped : c.self.inside.mapped ≡ c.args.self.now.mapped = ap (λ (t : Totals). t.mapped) c.self.view_is in
    let len : c.counted.inside.len ≡ c.args.counted.len = ap (λ (f : CountedFile). f.len) c.counted.view_is in
    let own : c.counted.inside.mapped ≡ c.args.counted.mapped = ap (λ (f : CountedFile). f.mapped) c.counted.view_is in
    moved_fits c.self.inside.rows (map (row_of c.args.pool.now) es) c.in_ok-new.new.items c.in_ok-new.ensures.same
    (fit_together c.args.pool.now c.self.inside.rows es c.self.inside.depth c.self.inside.lengths c.self.inside.mapped c.counted.inside.len c.counted.inside.mapped c.self.invariant
    c.counted.invariant.file c.counted.invariant.vm (omega (arith, lengths, len, c.requires.fits.lengths)) (omega (arith, mapped, own, c.requires.fits.mapped)))

pub invariant_of-self-2 : goal.invariant_of-self-2
invariant_of-self-2 c =
    let es = c.counted.inside.sizes in
    let pool = c.args.pool.now in
    let depth : c.self.inside.depth ≡ c.args.self.now.depth = ap (λ (t : Totals). t.depth) c.self.view_is in
    let lengths : c.self.inside.lengths ≡ c.args.self.now.lengths = ap (λ (t : Totals). t.lengths) c.self.view_is in
    let mapped : c.self.inside.mapped ≡ c.args.self.now.mapped = ap (λ (t : Totals). t.mapped) c.self.view_is in
    let entries : es ≡ c.args.counted.entries = ap (λ (f : CountedFile). f.entries) c.counted.view_is in
    let len : c.counted.inside.len ≡ c.args.counted.len = ap (λ (f : CountedFile). f.len) c.counted.view_is in
    let own : c.counted.inside.mapped ≡ c.args.counted.mapped = ap (λ (f : CountedFile). f.mapped) c.counted.view_is in
    let all : All (IsEntry c.self.inside.depth (length pool)) es =
    subst (λ (list : List Entry). All (IsEntry c.self.inside.depth (length pool)) list) (sym entries) (subst (λ k. All (IsEntry k (length pool)) c.args.counted.entries) (sym depth) c.requires.entries) in
    let merged : Merges c.self.inside.rows (map (row_of pool) es) c.add.new.self =
    merges_moved c.self.inside.rows (map (row_of pool) es) c.in_ok-new.new.items c.add.new.self c.in_ok-new.ensures.same c.in_ok-add.ensures.ok in
    new_totals pool c.self.inside.rows es c.self.inside.depth c.self.inside.lengths c.self.inside.mapped c.counted.inside.len c.counted.inside.mapped (length pool) c.add.new.self c.self.invariant all merged
    c.counted.invariant.file c.counted.invariant.vm (omega (arith, lengths, len, c.requires.fits.lengths)) (omega (arith, mapped, own, c.requires.fits.mapped))

pub returns : goal.returns
returns c =
    let es = c.counted.inside.sizes in
    let pool = c.args.pool.now in
    let rows : c.self.inside.rows ≡ c.args.self.now.rows = ap (λ (t : Totals). t.rows) c.self.view_is in
    let lengths : c.self.inside.lengths ≡ c.args.self.now.lengths = ap (λ (t : Totals). t.lengths) c.self.view_is in
    let mapped : c.self.inside.mapped ≡ c.args.self.now.mapped = ap (λ (t : Totals). t.mapped) c.self.view_is in
    let entries : es ≡ c.args.counted.entries = ap (λ (f : CountedFile). f.entries) c.counted.view_is in
    let len : c.counted.inside.len ≡ c.args.counted.len = ap (λ (f : CountedFile). f.len) c.counted.view_is in
    let own : c.counted.inside.mapped ≡ c.args.counted.mapped = ap (λ (f : CountedFile). f.mapped) c.counted.view_is in
    let merged : Merges c.self.inside.rows (map (row_of pool) es) c.add.new.self =
    merges_moved c.self.inside.rows (map (row_of pool) es) c.in_ok-new.new.items c.add.new.self c.in_ok-new.ensures.same c.in_ok-add.ensures.ok in
    record {
      file = λ test.
          file_added pool c.self.inside.rows es test c.add.new.self merged
          ∙ (ap (λ r. file_where test r + weight File (λ ns. test (map (text_of pool) ns)) es) rows
          ∙ ap (λ e. file_where test c.args.self.now.rows + weight File (λ ns. test (map (text_of pool) ns)) e) entries);
      vm = λ test.
          vm_added pool c.self.inside.rows es test c.add.new.self merged
          ∙ (ap (λ r. vm_where test r + weight Vm (λ ns. test (map (text_of pool) ns)) es) rows
          ∙ ap (λ e. vm_where test c.args.self.now.rows + weight Vm (λ ns. test (map (text_of pool) ns)) e) entries);
      depth = ap (λ (t : Totals). t.depth) c.self.view_is;
      lengths = omega (arith, lengths, len);
      mapped = omega (arith, mapped, own);
      unchanged = tt;
    }
