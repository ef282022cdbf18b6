pub mod CommandLemmas
pub mod Limits
pub mod NameLemmas
pub mod Numbers
pub mod UsageLemmas
