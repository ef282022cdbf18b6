pub mod DebugLemmas
pub mod SymbolLemmas
pub mod TableLemmas
