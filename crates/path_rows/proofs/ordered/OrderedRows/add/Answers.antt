use Rattle.std.proofs.Common.{◌≡◌, ◌++◌, ◌∷◌, [], refl, List, length, map, reverse, ap, sym, subst, ◌∙◌, arith}
use Rattle.std.proofs.lemmas.Result.{on_ok_weaker}
use Rattle.std.proofs.lemmas.List.{append-nil, length-reverse}
use Rattle.path_rows.specs.declared.row.RollupRow.{RollupRow}
use Rattle.path_rows.specs.Rows.{FitTogether, with_rows}
use Rattle.path_rows.specs.Tree.{rows_in}
use Rattle.path_rows.proofs.Trees.{alone_each, length-with_rows, merged_back}
use Rattle.path_rows.proofs.ordered.OrderedRows.add.Goals as goal

nothing : {X : Type 0} (xs : List X) → length xs ≡ 0 → xs ≡ []
nothing [] e = refl
nothing (x ∷ xs) e = absurd (omega (arith, e))

pub returns-then-is_cheap-clause-ok : goal.returns-then-is_cheap-clause-ok
returns-then-is_cheap-clause-ok c =
    let list = c.self.inside.list.items in
    let none : rows_in c.self.inside.tree ≡ [] = nothing (rows_in c.self.inside.tree) (omega (arith, c.if-len-eq0.true, c.len-3.ensures)) in
    let old : list ≡ c.args.self.now = sym (append-nil list) ∙ (ap (λ l. list ++ l) (sym none) ∙ c.self.view_is) in
    on_ok_weaker c.merge.result
    (λ made. merged_back c.args.self.now c.args.new.items (c.merge.new.rows.items ++ rows_in c.self.inside.tree) c.requires.ordered
    (ap (λ l. c.merge.new.rows.items ++ l) none ∙ (append-nil c.merge.new.rows.items ∙ (made ∙ ap (λ l. with_rows l (reverse c.args.new.items)) old))))
    c.merge.ensures.ok

pub insert_all-requires-clause-alone : goal.insert_all-requires-clause-alone
insert_all-requires-clause-alone c = (alone_each (λ b. b.value) c.in_ok-branches.branches.items c.args.new.items c.in_ok-branches.ensures).0

pub insert_all-requires-clause-fits : goal.insert_all-requires-clause-fits
insert_all-requires-clause-fits c =
    let news = (alone_each (λ b. b.value) c.in_ok-branches.branches.items c.args.new.items c.in_ok-branches.ensures).1 in
    let old : rows_in c.plant.new.tree ≡ c.args.self.now = ap (λ l. l ++ rows_in c.plant.new.tree) (sym c.in_ok-plant.ensures.all) ∙ (c.in_ok-plant.ensures.same ∙ c.self.view_is) in
    subst (λ l. FitTogether l (map (λ b. b.value.row) c.in_ok-branches.branches.items)) (sym old) (subst (FitTogether c.args.self.now) (sym news) c.requires.fits)

pub invariant_of-self-2 : goal.invariant_of-self-2
invariant_of-self-2 c =
    let news = (alone_each (λ b. b.value) c.in_ok-branches.branches.items c.args.new.items c.in_ok-branches.ensures).1 in
    let old : rows_in c.plant.new.tree ≡ c.args.self.now = ap (λ l. l ++ rows_in c.plant.new.tree) (sym c.in_ok-plant.ensures.all) ∙ (c.in_ok-plant.ensures.same ∙ c.self.view_is) in
    let rows : List RollupRow = map (λ b. b.value.row) c.in_ok-branches.branches.items in
    omega (arith, ap length c.in_ok-plant.ensures.all, ap length c.insert_all.ensures, length-with_rows (reverse rows) (rows_in c.plant.new.tree), length-reverse rows, ap length news, ap length old, c.len.ensures, c.len-2.ensures, c.if-len.false)

pub returns-clause-ok : goal.returns-clause-ok
returns-clause-ok c =
    let news = (alone_each (λ b. b.value) c.in_ok-branches.branches.items c.args.new.items c.in_ok-branches.ensures).1 in
    let old : rows_in c.plant.new.tree ≡ c.args.self.now = ap (λ l. l ++ rows_in c.plant.new.tree) (sym c.in_ok-plant.ensures.all) ∙ (c.in_ok-plant.ensures.same ∙ c.self.view_is) in
    merged_back c.args.self.now c.args.new.items (c.plant.new.list.items ++ rows_in c.insert_all.new.tree) c.requires.ordered
    (ap (λ l. l ++ rows_in c.insert_all.new.tree) c.in_ok-plant.ensures.all ∙ (c.insert_all.ensures ∙ (ap (λ l. with_rows l (reverse (map (λ b. b.value.row) c.in_ok-branches.branches.items))) old ∙ ap (λ l. with_rows c.args.self.now (reverse l)) news)))
