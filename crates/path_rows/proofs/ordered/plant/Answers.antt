use Rattle.std.proofs.Common.{◌≡◌, ◌++◌, ◌∷◌, [], length, ap, sym, ◌∙◌, arith, length-append, append_assoc}
use Rattle.path_rows.specs.Parts.{Parts, all_of}
use Rattle.path_rows.specs.Tree.{rows_in}
use Rattle.path_rows.proofs.ordered.plant.Goals as goal

pub join-requires-clause-count : goal.join-requires-clause-count
join-requires-clause-count c =
    omega (
      arith,
      c.requires.count,
      ap length c.loop-row.invariant,
      length-append c.loop-row.list.items (rows_in c.loop-row.tree),
      length-append c.args.list.now.items (rows_in c.args.tree.now),
      ap length c.in-Some.ensures.items,
      length-append c.pop.new.self.items (c.in-Some.row ∷ []),
      ap (λ t. length (rows_in t)) c.replace-rows.ensures.value,
    )

pub loop-row-preserved : goal.loop-row-preserved
loop-row-preserved c =
    let before = rows_in c.loop-row.tree in
    let made : all_of c.join.result.value ≡ c.in-Some.row ∷ before =
    c.join.ensures ∙ (ap (λ t. c.in-Ok.branch.value.row ∷ rows_in t) c.replace-rows.ensures.value ∙ ap (λ (p : Parts). p.row ∷ before) c.in-Ok.ensures.ok) in
    ap (λ l. c.pop.new.self.items ++ l) made
    ∙ (sym (append_assoc c.pop.new.self.items (c.in-Some.row ∷ []) before) ∙ (ap (λ l. l ++ before) (sym c.in-Some.ensures.items) ∙ c.loop-row.invariant))
