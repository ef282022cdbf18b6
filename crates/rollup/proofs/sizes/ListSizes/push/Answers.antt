use Rattle.std.proofs.Common.{◌≡◌, ◌++◌, ◌∷◌, [], ℕ, length, map, ap, ◌∙◌, arith}
use Rattle.rollup.specs.declared.sizes.ListSize.{ListSize}
use Rattle.rollup.specs.declared.sizes.Sizes.{Sizes}
use Rattle.rollup.specs.Sizes.{entry_of_list}
use Rattle.rollup.proofs.Lists.{pushed-list}
use Rattle.rollup.proofs.sizes.ListSizes.push.Goals as goal

abbrev part : ℕ → ℕ → Sizes → ListSize
part first len sizes = record { first = first; len = len; sizes = sizes }

pub returns : goal.returns
returns c =
    let ns = c.self.inside.numbers.items in
    let xs = c.args.numbers.now in
    let items = c.self.inside.items.items in
    let first : c.len-first.result ≡ length ns = omega (arith, c.len-first.ensures, c.self.inside.numbers.ok.0) in
    let made : c.push-2.new.self.items ≡ items ++ part (length ns) (length xs) c.args.sizes ∷ [] =
    c.in_ok-push-2.ensures.items ∙ ap (λ n. items ++ part n (length xs) c.args.sizes ∷ []) first in
    rw (← c.self.view_is) (ap (λ l. map (entry_of_list l) c.push-2.new.self.items) c.in_ok-extend_from_slice.ensures.items ∙ (ap (map (entry_of_list (ns ++ xs))) made ∙ pushed-list ns xs items c.args.sizes c.self.invariant))
