pub mod ClaimLemmas
pub mod HollowLemmas
pub mod ItemLemmas
pub mod KeyLemmas
pub mod ListLemmas
pub mod SetLemmas
pub mod TupleLemmas
