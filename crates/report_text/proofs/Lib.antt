pub mod BackLemmas
mod PlaceLemmas
pub mod PathLemmas
pub mod ReadLemmas
mod RecordLemmas
mod TextLemmas
