use Rattle.std.proofs.Common.{◌≡◌, get_or, sym, ap, ◌∙◌, arith}
use Rattle.std.proofs.lemmas.Option.{get_or_from_slice_get}
use Rattle.std.proofs.lemmas.Slice.Eq.{bytes_eq-Decides}
use Rattle.rollup.specs.Sizes.{Entry, entry_of, no_entry}
use Rattle.rollup.proofs.sizes.ListSizes.is_at.Goals as goal

pub returns : goal.returns
returns c = λ yes.
    let es = c.args.self.now in
    let here : get_or es c.args.i no_entry ≡ entry_of c.get.result.0.now c.get.result.1 = get_or_from_slice_get es c.args.i (entry_of c.get.result.0.now c.get.result.1) no_entry c.get.ensures in
    record {
      within = omega (arith, c.if-i-len.false, c.len.ensures);
      there = ap (λ (e : Entry). e.numbers) here ∙ (bytes_eq-Decides c.get.result.0.now c.args.numbers.now).0 (sym c.eq.ensures ∙ yes);
    }
