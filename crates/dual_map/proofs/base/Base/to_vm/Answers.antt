use Rattle.std.proofs.Common.{◌≡◌, ◌+◌, ◌≤◌, ◌^◌, get_or, List, Some, Option, ℕ, sym, ap, subst, ◌∙◌, arith}
use Rattle.size_core.specs.declared.claim.Load.{Load}
use Rattle.size_model.specs.declared.piece.Piece.{Piece}
use Rattle.size_model.specs.Cut.{label_in}
use Rattle.dual_map.specs.Layout.{load_of_offset}
use Rattle.dual_map.specs.Way.{no_load}
use Rattle.dual_map.proofs.LoadLemmas.{CoversOffset, addr_none, first_covers_offset, offset_bounds}
use Rattle.dual_map.proofs.base.Base.to_vm.Goals as goal

label_in-from : (ps : List Piece) (x y : ℕ) (found : Option ℕ) → x ≡ y → label_in ps y ≡ found → label_in ps x ≡ found
label_in-from ps x y found e h = ap (label_in ps) e ∙ h

-- The load of a label that was found.
covers : (len : ℕ) (ls : List Load) (o i : ℕ) (d : Load) (found : Option ℕ) → Some i ≡ found → found ≡ load_of_offset len ls o → d ≡ get_or ls i d → CoversOffset len ls o i d
covers len ls o i d found e l g = subst (λ k. CoversOffset len ls o i k) (sym g) (first_covers_offset len ls o i d (sym (e ∙ l)))

pub index-load-requires : goal.index-load-requires
index-load-requires c =
    let b = c.self.inside in
    let w = first_covers_offset b.file_len b.loads.items c.args.offset c.in_ok-i.i no_load (sym (c.in_ok-i.ensures ∙ label_in-from _ _ _ _ c.from.ensures (c.self.invariant.offsets.labels c.args.offset))) in
    omega (arith, w.within, b.loads.ok.0)

pub overflow_sub-result : goal.overflow_sub-result
overflow_sub-result c =
    let w = covers c.self.inside.file_len c.self.inside.loads.items c.args.offset c.in_ok-i.i c.index-load.result.now _ c.in_ok-i.ensures (label_in-from _ _ _ _ c.from.ensures (c.self.invariant.offsets.labels c.args.offset)) c.index-load.ensures in
    (offset_bounds c.self.inside.file_len c.index-load.result.now c.args.offset w.covers).0

pub overflow_add-result : goal.overflow_add-result
overflow_add-result c =
    let w = covers c.self.inside.file_len c.self.inside.loads.items c.args.offset c.in_ok-i.i c.index-load.result.now _ c.in_ok-i.ensures (label_in-from _ _ _ _ c.from.ensures (c.self.invariant.offsets.labels c.args.offset)) c.index-load.ensures in
    let f = subst (λ (l : Load). l.vaddr + l.memsz ≤ 2 ^ 64) (sym c.index-load.ensures) (c.self.invariant.loads_fit c.in_ok-i.i c.index-load.result.now w.within).ends in
    omega (arith, offset_bounds c.self.inside.file_len c.index-load.result.now c.args.offset w.covers)

pub returns-in_err-i : goal.returns-in_err-i
returns-in_err-i c =
    rw (← c.self.view_is) (c.from_residual.ensures ∙ sym (addr_none _ 0 _ c.args.offset (sym (c.in_err-i.ensures ∙ label_in-from _ _ _ _ c.from.ensures (c.self.invariant.offsets.labels c.args.offset)))))

pub returns : goal.returns
returns c =
    let w = covers c.self.inside.file_len c.self.inside.loads.items c.args.offset c.in_ok-i.i c.index-load.result.now _ c.in_ok-i.ensures (label_in-from _ _ _ _ c.from.ensures (c.self.invariant.offsets.labels c.args.offset)) c.index-load.ensures in
    rw (← c.self.view_is) (sym w.gives)
