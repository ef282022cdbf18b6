pub mod Areas
pub mod Identities
pub mod Laws
pub mod Notes
pub mod Shown
