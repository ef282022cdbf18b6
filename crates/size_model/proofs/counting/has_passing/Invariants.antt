use Rattle.std.proofs.Common.{◌≡◌, ℕ, List, true, false, drop}
use Rattle.size_model.specs.Labels.{first_label}
use Rattle.size_model.proofs.counting.has_passing.Given as goal

-- No label before index i passes the test.
abbrev pub invariant-loop-i : goal.invariant-loop-i
invariant-loop-i g l = first_label (g.T.LabelTest.holds l.test) (λ (x : List ℕ). true) false (drop l.i l.path) ≡ first_label (g.T.LabelTest.holds l.test) (λ (x : List ℕ). true) false l.path
