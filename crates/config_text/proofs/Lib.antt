pub mod TokenLemmas
pub mod ReadLemmas
pub mod ValueLemmas
pub mod SourceLemmas
