pub mod AreaLemmas
pub mod IdentityLemmas
pub mod NoteLemmas
pub mod UuidLemmas
