pub mod NameLemmas
pub mod NumbersLemmas
pub mod PlaceLemmas
pub mod Within
