use Rattle.std.proofs.Common.{◌≡◌, ◌∷◌, false, List, take, drop, sym, subst, arith}
use Rattle.std.specs.Prelude.{All}
use Rattle.std.specs.List.Sorted.{IsPermutation, IsSorted}
use Rattle.std.specs.Ordering.{is_lt}
use Rattle.std.proofs.lemmas.List.Sorted.{IsPermutation-insert}
use Rattle.report_rows.specs.declared.groups.Group.{Group}
use Rattle.report_rows.specs.Groups.{group_cmp}
use Rattle.report_rows.proofs.InsertLemmas.{insert-sorted}
use Rattle.report_rows.proofs.LeadingLemmas.{group-total}
use Rattle.report_rows.proofs.leading.insert.Goals as goal

pub insert-requires : goal.insert-requires
insert-requires c = omega (arith, c.position-index.ensures.within, c.as_slice.ensures.len)

pub returns : goal.returns
returns c =
    let g = c.args.group in
    let old = c.args.kept.now.items in
    let n = c.position-index.result in
    let same = c.as_slice.ensures.value in
    record {
      same = subst (IsPermutation (g ∷ old)) (sym c.in_ok-insert.ensures.items) (IsPermutation-insert old n g);
      ordered = λ sorted.
          subst (IsSorted group_cmp) (sym c.in_ok-insert.ensures.items) (insert-sorted group_cmp group-total old n g sorted
          (subst (λ (hs : List Group). All (λ h. is_lt (group_cmp g h) ≡ false) (take n hs)) same (c.position-index.ensures.before (subst (IsSorted group_cmp) (sym same) sorted)))
          (subst (λ (hs : List Group). All (λ h. is_lt (group_cmp h g) ≡ false) (drop n hs)) same c.position-index.ensures.after));
    }
