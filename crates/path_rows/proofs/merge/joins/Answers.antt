use Rattle.std.proofs.Common.{◌≡◌, ap, refl, sym, ◌∙◌}
use Rattle.std.specs.Bool.{◌==◌}
use Rattle.std.specs.Ordering.{is_eq, ordering_index}
use Rattle.std.specs.declared.cmp.Ordering.{Ordering}
use Rattle.std.specs.declared.cmp.Ordering.TheVariants.{Less, Equal, Greater}
use Rattle.path_rows.proofs.Merging.{joins_last-last}
use Rattle.path_rows.proofs.merge.joins.Goals as goal

by_index : (o : Ordering) → (ordering_index o == 1) ≡ is_eq o
by_index Less = refl
by_index Equal = refl
by_index Greater = refl

pub returns-in-Some : goal.returns-in-Some
returns-in-Some c =
    c.eq.ensures ∙ (by_index c.compare_paths.result ∙ (ap is_eq c.compare_paths.ensures ∙ sym (joins_last-last c.args.rows.now c.in-Some.last.now c.args.path.now (sym c.in-Some.ensures.value))))
