pub mod BuildLemmas
pub mod FirstLemmas
pub mod PlanLemmas
