use Rattle.std.proofs.Common.{◌≡◌, ◌^◌, ◌<◌, ℕ, List, Some, get_or, sym, ap, ◌∙◌, arith}
use Rattle.size_core.specs.declared.claim.Load.{Load}
use Rattle.size_model.specs.declared.piece.Piece.{Piece}
use Rattle.size_model.specs.Cut.{label_in, IsCut}
use Rattle.size_model.specs.Loads.{place_in}
use Rattle.dual_map.specs.Layout.{load_of_position}
use Rattle.dual_map.specs.Way.{position_at, no_load}
use Rattle.dual_map.proofs.LoadLemmas.{CoversAddress, first_covers_at, load_at, place_none}
use Rattle.dual_map.proofs.base.Base.to_file.Goals as goal

-- The load of a label that was found.
covers : (len : ℕ) (ls : List Load) (ps : List Piece) (x q r i : ℕ) (d : Load) → IsCut (load_of_position ls) ps → x ≡ position_at (q, r) → r < 2 ^ 64 → Some i ≡ label_in ps x → CoversAddress len ls q r i (get_or ls i d)
covers len ls ps x q r i d c e h found = first_covers_at len ls q r i d (sym (found ∙ load_at ls ps x q r c e h))

pub index-requires : goal.index-requires
index-requires c =
    let b = c.self.inside in
    let w = covers b.file_len b.loads.items b.positions c.position.result c.args.space c.args.address c.in_ok-i.i no_load c.self.invariant.positions c.position.ensures.value (omega arith) c.in_ok-i.ensures in
    omega (arith, w.within, b.loads.ok.0)

pub returns-in_err-i : goal.returns-in_err-i
returns-in_err-i c =
    let b = c.self.inside in
    rw (← c.self.view_is) (c.from_residual.ensures ∙ sym (place_none b.file_len 0 b.loads.items c.args.space c.args.address (sym (c.in_err-i.ensures ∙ load_at b.loads.items b.positions c.position.result c.args.space c.args.address c.self.invariant.positions c.position.ensures.value (omega arith)))))

pub returns : goal.returns
returns c =
    let b = c.self.inside in
    let w = covers b.file_len b.loads.items b.positions c.position.result c.args.space c.args.address c.in_ok-i.i c.index.result.now c.self.invariant.positions c.position.ensures.value (omega arith) c.in_ok-i.ensures in
    rw (← c.self.view_is) (c.offset_in.ensures ∙ (ap (λ (l : Load). place_in b.file_len l c.args.address) c.index.ensures ∙ sym w.gives))
