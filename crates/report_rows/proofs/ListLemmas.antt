-- Rows are listed entry by entry.
use Rattle.std.proofs.Common.{◌≡◌, ℕ, ◌+◌, ◌-◌, List, length, take, drop, sym, subst, arith, Bor}
use Rattle.std.proofs.lemmas.List.Elements.{All-take, All-drop}
use Rattle.path_rows.specs.declared.row.RollupRow.{RollupRow}
use Rattle.report_rows.specs.declared.groups.Group.{Group}
use Rattle.report_rows.specs.Groups.{IsPart, IsRange}
use Rattle.report_rows.proofs.GroupLemmas.{seen, seen-mid, part-le}

-- The rows under a group are a sorted part.
pub part-of : (depth level : ℕ) (rows : List (Bor RollupRow)) (g : Group) → IsPart depth level (seen rows) → IsRange level (seen rows) g
    → IsPart depth (level + 1) (seen (take (g.to - g.from) (drop g.from rows)))
part-of depth level rows g part range =
    let D : RollupRow → Type 0 = λ r. length r.path ≡ depth in
    let e = seen-mid rows g.from (g.to - g.from) in
    subst (IsPart depth (level + 1)) (sym e) (record {
      ordered = range.ordered;
      deep = All-take D (g.to - g.from) (drop g.from (seen rows)) (All-drop D g.from (seen rows) part.deep);
      vm_fits = omega (arith, part-le (λ (r : RollupRow). r.vm) (seen rows) g.from (g.to - g.from), part.vm_fits);
      file_fits = omega (arith, part-le (λ (r : RollupRow). r.file) (seen rows) g.from (g.to - g.from), part.file_fits);
    })
