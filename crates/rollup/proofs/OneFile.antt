-- What the two walks through the maps of a file count.
use Rattle.std.proofs.Common.{◌≡◌, ◌+◌, ◌≤◌, ◌^◌, ℕ, suc, Bool, true, false, cond, ◌&&◌, is_some, nat_lt, List, [], ◌∷◌, map, Option, length, refl, sym, ap, ◌∙◌, arith}
use Rattle.std.specs.Prelude.{All}
use Rattle.std.proofs.lemmas.Bool.Decides.{nat_tests}
use Rattle.std.proofs.lemmas.List.Sums.{sum_by-cons}
use Rattle.size_core.specs.declared.claim.Load.{Load}
use Rattle.size_model.specs.Count.{count_from}
use Rattle.size_model.specs.Cut.{label_in}
use Rattle.size_model.specs.Loads.{is_mapped, mapped_count}
use Rattle.size_model.proofs.Counts.{count-le, count-le-length, count-none, count-same}
use Rattle.range_map.proofs.Counts.{count-const}
use Rattle.dual_map.specs.Layout.{Layout, Maps, IsOver}
use Rattle.rollup.specs.declared.cursor.Part.{Part}
use Rattle.rollup.specs.declared.cursor.Part.TheVariants.{File, Vm}
use Rattle.rollup.specs.Adding.{numbers_at, passes, piece_count}
use Rattle.rollup.specs.Counted.{counted, file_counted, vm_counted, vm_limit, is_covered, is_counted_at}
use Rattle.rollup.specs.Walk.{layers, pieces_of, piece_total}

-- If each map has a label at a position, it is covered. If the first map has none there, it is not.
covered : (part : Part) (maps : List Maps) (x : ℕ) → All (λ (m : Maps). is_some (label_in (pieces_of part m) x) ≡ true) maps → is_covered (layers part maps) x ≡ true
covered part [] x all = refl
covered part (m ∷ ms) x all = ap (λ b. b && is_covered (layers part ms) x) (all 0 m (omega arith)) ∙ covered part ms x (λ k d lt. all (suc k) d (omega arith))

bare : (part : Part) (m : Maps) (ms : List Maps) (x : ℕ) → is_some (label_in (pieces_of part m) x) ≡ false → is_covered (layers part (m ∷ ms)) x ≡ false
bare part m ms x e = ap (λ b. b && is_covered (layers part ms) x) e

pub offsets-counted : (layout : Layout) (maps : List Maps) (test : List ℕ → Bool) (marks : Option (List Bool)) → All (IsOver layout) maps → counted test marks (layers File maps) layout.len ≡ file_counted test marks maps layout.len
offsets-counted layout maps test marks over =
    count-same (is_counted_at test marks (layers File maps)) (λ o. passes marks (numbers_at (layers File maps) o) && test (numbers_at (layers File maps) o)) 0 layout.len (λ o low high.
    ap (λ b. b && (passes marks (numbers_at (layers File maps) o) && test (numbers_at (layers File maps) o)))
    (covered File maps o (λ k d lt. (over k d lt).offsets o ∙ (let below : nat_lt o layout.len ≡ true = grind (arith, nat_tests) in below))))

-- All maps have a label at a position if and only if it is mapped.
told : (layout : Layout) (m : Maps) (ms : List Maps) (p : ℕ) → All (IsOver layout) (m ∷ ms) → (b : Bool) → is_mapped layout.loads p ≡ b → is_covered (layers Vm (m ∷ ms)) p ≡ b
told layout m ms p over true e = covered Vm (m ∷ ms) p (λ k d lt. (over k d lt).positions p ∙ e)
told layout m ms p over false e = bare Vm m ms p ((over 0 m (omega arith)).positions p ∙ e)

and_false : (b : Bool) → (b && false) ≡ false
and_false true = refl
and_false false = refl

and_true : (b : Bool) → (b && true) ≡ b
and_true true = refl
and_true false = refl

-- A test with the same result at each position counts all mapped positions or none.
mapped_alike : (loads : List Load) (b : Bool) → cond b (mapped_count loads) 0 ≡ count_from (λ p. is_mapped loads p && b) 0 (2 ^ 96)
mapped_alike loads true = sym (count-same (λ p. is_mapped loads p && true) (is_mapped loads) 0 (2 ^ 96) (λ p low high. and_true (is_mapped loads p)))
mapped_alike loads false = sym (count-none (λ p. is_mapped loads p && false) 0 (2 ^ 96) (λ p low high. and_false (is_mapped loads p)))

pub positions-counted : (layout : Layout) (maps : List Maps) (test : List ℕ → Bool) (marks : Option (List Bool)) → All (IsOver layout) maps → counted test marks (layers Vm maps) (vm_limit layout.loads maps) ≡ vm_counted test marks maps layout.loads
positions-counted layout [] test marks over =
    count-const (is_counted_at test marks []) (passes marks [] && test []) 0 (mapped_count layout.loads) (λ p low high. refl) ∙ mapped_alike layout.loads (passes marks [] && test [])
positions-counted layout (m ∷ ms) test marks over =
    count-same (is_counted_at test marks (layers Vm (m ∷ ms))) (λ p. is_mapped layout.loads p && (passes marks (numbers_at (layers Vm (m ∷ ms)) p) && test (numbers_at (layers Vm (m ∷ ms)) p))) 0 (2 ^ 96) (λ p low high.
    ap (λ b. b && (passes marks (numbers_at (layers Vm (m ∷ ms)) p) && test (numbers_at (layers Vm (m ∷ ms)) p))) (told layout m ms p over (is_mapped layout.loads p) refl))

pub pieces-add : (maps : List Maps) → piece_count maps ≡ piece_total (layers File maps) + piece_total (layers Vm maps)
pieces-add [] = refl
pieces-add (m ∷ ms) =
    omega (arith, sum_by-cons (λ (n : Maps). length n.file + length n.vm) m ms, sum_by-cons length m.file (layers File ms), sum_by-cons length m.vm (layers Vm ms), pieces-add ms)

-- No more offsets are counted than the file has, and no more positions than are mapped.
pub file-le : (test : List ℕ → Bool) (marks : Option (List Bool)) (maps : List Maps) (len : ℕ) → file_counted test marks maps len ≤ len
file-le test marks maps len = count-le-length (λ o. passes marks (numbers_at (map (λ (m : Maps). m.file) maps) o) && test (numbers_at (map (λ (m : Maps). m.file) maps) o)) 0 len

and_left : (b c : Bool) → (b && c) ≡ true → b ≡ true
and_left true c h = refl
and_left false c h = h

pub vm-le : (test : List ℕ → Bool) (marks : Option (List Bool)) (maps : List Maps) (loads : List Load) → vm_counted test marks maps loads ≤ mapped_count loads
vm-le test marks maps loads =
    count-le (λ p. is_mapped loads p && (passes marks (numbers_at (map (λ (m : Maps). m.vm) maps) p) && test (numbers_at (map (λ (m : Maps). m.vm) maps) p))) (is_mapped loads) 0 (2 ^ 96)
    (λ p e. and_left (is_mapped loads p) (passes marks (numbers_at (map (λ (m : Maps). m.vm) maps) p) && test (numbers_at (map (λ (m : Maps). m.vm) maps) p)) e)
