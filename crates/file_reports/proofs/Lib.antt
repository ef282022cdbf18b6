pub mod LawLemmas
pub mod ReadBackLemmas
pub mod ReportLemmas
