use Rattle.std.proofs.Common.{◌≡◌, ◌-◌, ◌<◌, ◌≤◌, ◌∷◌, [], ◌++◌, List, length, take, ap, sym, subst, ◌∙◌, arith}
use Rattle.std.proofs.lemmas.List.Elements.{All-head, All-tail}
use Rattle.std.proofs.lemmas.Result.{on_ok_weaker}
use Rattle.report_rows.specs.declared.groups.Group.{Group}
use Rattle.report_rows.specs.declared.leading.LeftOut.{LeftOut}
use Rattle.report_rows.specs.Leading.{CanAdd, Inserts, Leads}
use Rattle.report_rows.proofs.InsertLemmas.{All-last, with-last}
use Rattle.report_rows.proofs.LeadingLemmas.{above-in-order, group-left, kept-more, last-left, upto-in-order}
use Rattle.report_rows.proofs.leading.Leading.keep.Goals as goal

pub returns-then-count-limit : goal.returns-then-count-limit
returns-then-count-limit c =
    let s = c.args.self.now in
    let few : length s.kept.items < c.args.limit = omega (arith, c.len-count.ensures, s.kept.ok.0) in
    on_ok_weaker c.insert.result (λ more groups l. kept-more c.args.limit groups s.left_out c.args.group s.kept.items c.insert.new.kept.items few more l) c.insert.ensures

pub add-requires : goal.add-requires
add-requires c = let s = c.args.self.now in All-head (CanAdd s.left_out) c.args.group s.kept.items c.requires.fits

pub returns-then-is_le : goal.returns-then-is_le
returns-then-is_le c = λ groups l.
    let s = c.args.self.now in
    let n = c.len-count.result in
    let last = c.index.result.now in
    let some : 0 < n = omega (arith, c.requires.some) in
    let long : n ≡ length s.kept.items = omega (arith, c.len-count.ensures, s.kept.ok.0) in
    let are : s.kept.items ≡ take (n - 1) s.kept.items ++ last ∷ [] = with-last s.kept.items n last long some c.index.ensures in
    let enough : c.args.limit ≤ length s.kept.items = omega arith in
    subst (λ (x : LeftOut). Leads c.args.limit (groups ++ c.args.group ∷ []) s.kept.items x) (sym c.add.ensures)
    (group-left c.args.limit groups s.left_out c.args.group s.kept.items (take (n - 1) s.kept.items) last are enough l (upto-in-order last c.args.group _ c.cmp.ensures (sym c.is_le.ensures ∙ c.if-is_le.true)))

pub add-requires-2 : goal.add-requires-2
add-requires-2 c =
    let s = c.args.self.now in
    let n = c.len-count.result in
    let some : 0 < n = omega (arith, c.requires.some) in
    let long : n ≡ length s.kept.items = omega (arith, c.len-count.ensures, s.kept.ok.0) in
    All-last (CanAdd s.left_out) s.kept.items n c.index.result.now long some c.index.ensures (All-tail (CanAdd s.left_out) c.args.group s.kept.items c.requires.fits)

pub returns : goal.returns
returns c =
    let s = c.args.self.now in
    let g = c.args.group in
    let n = c.len-count.result in
    let last = c.index.result.now in
    let some : 0 < n = omega (arith, c.requires.some) in
    let long : n ≡ length s.kept.items = omega (arith, c.len-count.ensures, s.kept.ok.0) in
    let are : s.kept.items ≡ take (n - 1) s.kept.items ++ last ∷ [] = with-last s.kept.items n last long some c.index.ensures in
    let enough : c.args.limit ≤ length s.kept.items = omega arith in
    let front : c.pop.new.self.items ≡ take (n - 1) s.kept.items = c.pop.ensures.rest ∙ ap (λ m. take (m - 1) s.kept.items) (sym c.len-count.ensures) in
    let new = c.insert-2.new.kept.items in
    on_ok_weaker c.insert-2.result
    (λ more groups l.
    subst (λ (x : LeftOut). Leads c.args.limit (groups ++ g ∷ []) new x) (sym c.add-2.ensures)
    (last-left c.args.limit groups s.left_out g s.kept.items (take (n - 1) s.kept.items) last are enough l new (above-in-order last g _ c.cmp.ensures (sym c.is_le.ensures ∙ c.if-is_le.false)) (subst (λ (hs : List Group). Inserts g hs new) front more)))
    c.insert-2.ensures
