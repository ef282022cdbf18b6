use Rattle.std.proofs.Common.{is_some, refl, ap, ◌∙◌, arith}
use Rattle.size_model.specs.Loads.{mapped, address_of}
use Rattle.dual_map.specs.Layout.{load_of_position, Layout}
use Rattle.dual_map.proofs.ClaimLemmas.{is_some-load}
use Rattle.dual_map.proofs.LoadLemmas.{split_position}
use Rattle.dual_map.proofs.base.Base.is_mapped.Goals as goal

pub returns : goal.returns
returns c =
    let b = c.self.inside in
    let x = c.position.result in
    let s = split_position x c.args.space c.args.address c.position.ensures.value (omega arith) in
    c.is_some.ensures ∙ (ap is_some c.label_of.ensures ∙ (ap is_some (c.self.invariant.positions.labels x) ∙ (is_some-load b.loads.items x (load_of_position b.loads.items x) refl ∙ (ap (λ q. mapped b.loads.items q (address_of x)) s.0 ∙ (ap (λ r. mapped b.loads.items c.args.space r) s.1 ∙ ap (λ (l : Layout). mapped l.loads c.args.space c.args.address) c.self.view_is)))))
