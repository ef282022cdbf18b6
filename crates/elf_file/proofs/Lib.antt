pub mod KnownLemmas
pub mod OpenedLemmas
