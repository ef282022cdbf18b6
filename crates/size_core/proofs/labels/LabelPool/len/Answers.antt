-- The set holds no label twice.
use Rattle.size_core.proofs.LabelLemmas.{distinct_labels}
use Rattle.size_core.proofs.labels.LabelPool.len.Goals as goal

pub returns-clause-distinct : goal.returns-clause-distinct
returns-clause-distinct c = rw (← c.self.view_is) (distinct_labels (λ v. v.items) c.self.inside.labels.keys c.self.invariant)
