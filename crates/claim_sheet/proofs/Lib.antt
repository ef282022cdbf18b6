pub mod KnownLemmas
pub mod ListLemmas
pub mod LongNameLemmas
pub mod LoopLemmas
pub mod MadeLemmas
pub mod SheetLemmas
