pub mod LoadLemmas
pub mod OpenedLemmas
