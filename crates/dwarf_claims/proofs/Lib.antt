pub mod Ascending
pub mod IndexLemmas
pub mod KeptLemmas
pub mod KnownLemmas
pub mod RowLemmas
pub mod StopLemmas
