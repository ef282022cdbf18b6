pub mod FirstLemmas
pub mod IndexLemmas
pub mod LeastLemmas
pub mod NameLemmas
pub mod SpanLemmas
pub mod SymbolLemmas
pub mod TakenLemmas
