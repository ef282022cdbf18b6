use Rattle.std.proofs.Common.{◌≡◌, ◌^◌, ◌<◌, ◌≤◌, ℕ, zero, suc, true, false, length, refl, sym, ◌∙◌, subst, arith}
use Rattle.std.proofs.lemmas.List.{get_or_default}
use Rattle.std.specs.BinaryHeap.{heap_items}
use Rattle.std.specs.declared.cmp.Reverse.{Reverse}
use Rattle.size_model.specs.Cut.{end_of}
use Rattle.range_map.specs.Sweep.{at, no_piece, IsLaidTo}
use Rattle.range_map.proofs.Opening.{Holds-kept, IsOpen-popped, IsStarted-top, Keeps-popped, label_in-closed, popped}
use Rattle.range_map.proofs.Pieces.{EndsBy-get}
use Rattle.range_map.proofs.Segments.{IsLaidTo-by_top, IsLaidTo-unlabelled}
use Rattle.range_map.proofs.sweep.Sweep.lay_open.Goals as goal

zero_from : (n : ℕ) → (0 < n → false ≡ true) → n ≡ 0
zero_from zero h = refl
zero_from (suc n) h = let e = h (omega arith) in cc

pub overflow_add-end : goal.overflow_add-end
overflow_add-end c =
    let l = c.in-Some.ensures.variant.0 refl in
    let t = IsStarted-top c.args.claims.now c.args.from (heap_items c.loop-top.self.heap) c.in-Some.top.now c.loop-top.invariant.opened (omega (arith, c.loop-top.self.heap.data.ok.0)) c.in-Some.ensures.lookup in
    let e = EndsBy-get c.args.claims.now (2 ^ 97) c.in-Some.top.now.0 no_piece c.requires.fits t.within in
    omega arith

pub fill-requires-clause-range_fits : goal.fill-requires-clause-range_fits
fill-requires-clause-range_fits c =
    let l = c.in-Some.ensures.variant.0 refl in
    let t = IsStarted-top c.args.claims.now c.args.from (heap_items c.loop-top.self.heap) c.in-Some.top.now c.loop-top.invariant.opened (omega (arith, c.loop-top.self.heap.data.ok.0)) c.in-Some.ensures.lookup in
    EndsBy-get c.args.claims.now (2 ^ 97) c.in-Some.top.now.0 no_piece c.requires.fits t.within

pub returns-then-to-end-clause-laid : goal.returns-then-to-end-clause-laid
returns-then-to-end-clause-laid c =
    let l = c.in-Some.ensures.variant.0 refl in
    let t = IsStarted-top c.args.claims.now c.args.from (heap_items c.loop-top.self.heap) c.in-Some.top.now c.loop-top.invariant.opened (omega (arith, c.loop-top.self.heap.data.ok.0)) c.in-Some.ensures.lookup in
    let h = Holds-kept c.args.claims.now c.args.from c.loop-top.at c.args.to (heap_items c.args.self.now.heap) (heap_items c.loop-top.self.heap) c.loop-top.invariant.after c.requires.held c.loop-top.invariant.kept in
    let b = c.loop-top.invariant.before in
    let e : c.max-reached.result ≡ c.args.to = omega arith in
    subst (λ n. IsLaidTo c.args.claims.now n c.fill.new.out.items) e (IsLaidTo-by_top c.args.claims.now c.args.from c.loop-top.at c.args.to c.max-reached.result (heap_items c.loop-top.self.heap) c.in-Some.top.now c.loop-top.self.out.items c.fill.new.out.items t (c.in-Some.ensures.greatest c.loop-top.invariant.opened.heap) c.loop-top.invariant.after h c.loop-top.invariant.laid c.in_ok-fill.ensures (omega arith) (omega arith))

pub loop-top-preserved : goal.loop-top-preserved
loop-top-preserved c =
    let l = c.in-Some.ensures.variant.0 refl in
    let some : 0 < length (heap_items c.loop-top.self.heap) = omega (arith, c.loop-top.self.heap.data.ok.0) in
    let t = IsStarted-top c.args.claims.now c.args.from (heap_items c.loop-top.self.heap) c.in-Some.top.now c.loop-top.invariant.opened some c.in-Some.ensures.lookup in
    let h = Holds-kept c.args.claims.now c.args.from c.loop-top.at c.args.to (heap_items c.args.self.now.heap) (heap_items c.loop-top.self.heap) c.loop-top.invariant.after c.requires.held c.loop-top.invariant.kept in
    let p = popped c.pop.result (heap_items c.loop-top.self.heap) (heap_items c.pop.new.self) (c.pop.ensures.variant.1 l) c.pop.ensures.top c.pop.ensures.permutation c.pop.ensures.heap_order in
    let same : p.0 ≡ c.in-Some.top.now = p.1 ∙ (get_or_default (heap_items c.loop-top.self.heap) 0 p.0 c.in-Some.top.now some ∙ sym c.in-Some.ensures.lookup) in
    let a = c.loop-top.invariant.after in
    let b = c.loop-top.invariant.before in
    let reached : end_of (at c.args.claims.now c.in-Some.top.now.0) ≤ c.max-reached.result = omega arith in
    record {
      after = omega arith;
      before = omega arith;
      opened = IsOpen-popped c.args.claims.now c.args.from (heap_items c.loop-top.self.heap) (heap_items c.pop.new.self) p.0 c.loop-top.invariant.opened p.2 (p.3 c.loop-top.invariant.opened.heap).0;
      kept = Keeps-popped c.args.claims.now c.loop-top.at c.max-reached.result (heap_items c.args.self.now.heap) (heap_items c.loop-top.self.heap) (heap_items c.pop.new.self) p.0 (omega arith) c.loop-top.invariant.kept p.2 (subst (λ (r : Reverse ℕ). end_of (at c.args.claims.now r.0) ≤ c.max-reached.result) (sym same) reached);
      laid = IsLaidTo-by_top c.args.claims.now c.args.from c.loop-top.at c.args.to c.max-reached.result (heap_items c.loop-top.self.heap) c.in-Some.top.now c.loop-top.self.out.items c.fill.new.out.items t (c.in-Some.ensures.greatest c.loop-top.invariant.opened.heap) c.loop-top.invariant.after h c.loop-top.invariant.laid c.in_ok-fill.ensures (omega arith) (omega arith);
    }

pub returns-clause-laid : goal.returns-clause-laid
returns-clause-laid c =
    let e = zero_from _ c.in_default.ensures.variant.1 in
    let none : length (heap_items c.loop-top.self.heap) ≡ 0 = omega (arith, c.loop-top.self.heap.data.ok.0) in
    let h = Holds-kept c.args.claims.now c.args.from c.loop-top.at c.args.to (heap_items c.args.self.now.heap) (heap_items c.loop-top.self.heap) c.loop-top.invariant.after c.requires.held c.loop-top.invariant.kept in
    IsLaidTo-unlabelled c.args.claims.now c.loop-top.at c.args.to c.loop-top.self.out.items c.loop-top.invariant.laid c.loop-top.invariant.before (λ x a b. label_in-closed c.args.claims.now c.loop-top.at c.args.to x (heap_items c.loop-top.self.heap) h none a b)
