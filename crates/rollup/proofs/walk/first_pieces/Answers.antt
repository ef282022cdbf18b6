use Rattle.std.proofs.Common.{◌≡◌, ◌+◌, ◌<◌, ℕ, List, [], ◌∷◌, ◌++◌, length, get_or, min, sym, subst, ap, ◌∙◌, arith}
use Rattle.std.proofs.lemmas.List.{length-map}
use Rattle.size_model.specs.declared.piece.Piece.{Piece}
use Rattle.rollup.specs.declared.cursor.Cursor.{Cursor}
use Rattle.rollup.specs.Walk.{layers, pieces_of, reads, reads_of, cursor_of, IsAt}
use Rattle.rollup.proofs.Cursors.{first_at, passed-of}
use Rattle.rollup.proofs.Walking.{layer-at, starting-step, reads-first, reads-le, reads-none, IsStarting}
use Rattle.rollup.proofs.walk.first_pieces.Goals as goal

first_cost : (pss : List (List Piece)) (cs : List Cursor) (i : ℕ) (ps : List Piece) (c : Cursor) (start before after : ℕ) → IsStarting pss i cs → i < length pss → get_or pss i [] ≡ ps
    → c ≡ cursor_of ps 0 → after + 0 ≡ before + min (length ps) (0 + 1) → before ≡ start + reads pss cs → after ≡ start + reads pss (cs ++ c ∷ [])
first_cost pss cs i ps c start before after s lt e is cost so_far =
    let passed : c.passed ≡ 0 = ap (λ (d : Cursor). d.passed) is ∙ passed-of ps 0 in
    let read : reads_of ps c ≡ min (length ps) (0 + 1) = ap (λ n. min (length ps) (n + 1)) passed in
    omega (arith, reads-first pss cs i ps c s.len lt e, read, cost, so_far)

pub loop-map-init : goal.loop-map-init
loop-map-init g c =
    let none : c.new-cursors.result.items ≡ [] = c.new-cursors.ensures.items in
    record {
      starting = record { len = ap length none; done = λ j below. absurd (omega arith) };
      cost = omega (arith, ap (reads (layers c.args.part c.args.maps.now)) none, reads-none (layers c.args.part c.args.maps.now));
    }

pub returns-in_err-push-clause-bound : goal.returns-in_err-push-clause-bound
returns-in_err-push-clause-bound g c =
    let pss = layers c.args.part c.args.maps.now in
    let within : c.loop-map.map-index < length c.args.maps.now = omega arith in
    let layer : get_or pss c.loop-map.map-index [] ≡ c.map_of.result.now = layer-at c.args.part c.args.maps.now c.loop-map.map-index c.map-item.result within c.map-item.is ∙ sym c.map_of.ensures.value in
    let lt : c.loop-map.map-index < length pss = omega (arith, length-map c.args.maps.now (pieces_of c.args.part)) in
    let cost = first_cost pss c.loop-map.cursors.items c.loop-map.map-index c.map_of.result.now c.read-cursor.result c.args.steps.now c.loop-map.steps c.read-cursor.new.steps c.loop-map.invariant.starting lt layer c.read-cursor.ensures.value c.read-cursor.ensures.cost c.loop-map.invariant.cost in
    omega (arith, cost, reads-le pss (c.loop-map.cursors.items ++ c.read-cursor.result ∷ []))

pub loop-map-preserved : goal.loop-map-preserved
loop-map-preserved g c =
    let pss = layers c.args.part c.args.maps.now in
    let within : c.loop-map.map-index < length c.args.maps.now = omega arith in
    let layer : get_or pss c.loop-map.map-index [] ≡ c.map_of.result.now = layer-at c.args.part c.args.maps.now c.loop-map.map-index c.map-item.result within c.map-item.is ∙ sym c.map_of.ensures.value in
    let lt : c.loop-map.map-index < length pss = omega (arith, length-map c.args.maps.now (pieces_of c.args.part)) in
    let at : IsAt c.map_of.result.now 0 c.read-cursor.result = subst (IsAt c.map_of.result.now 0) (sym c.read-cursor.ensures.value) (first_at c.map_of.result.now c.map_of.ensures.tidy) in
    let cost = first_cost pss c.loop-map.cursors.items c.loop-map.map-index c.map_of.result.now c.read-cursor.result c.args.steps.now c.loop-map.steps c.read-cursor.new.steps c.loop-map.invariant.starting lt layer c.read-cursor.ensures.value c.read-cursor.ensures.cost c.loop-map.invariant.cost in
    record {
      starting = subst (IsStarting pss (c.loop-map.map-index + 1)) (sym c.in_ok-push.ensures.items) (starting-step pss c.loop-map.map-index c.loop-map.cursors.items c.map_of.result.now c.read-cursor.result layer at c.loop-map.invariant.starting);
      cost = cost ∙ ap (λ cs. c.args.steps.now + reads pss cs) (sym c.in_ok-push.ensures.items);
    }

pub returns-clause-bound : goal.returns-clause-bound
returns-clause-bound g c = omega (arith, reads-le (layers c.args.part c.args.maps.now) c.loop-map.cursors.items, c.loop-map.invariant.cost)
