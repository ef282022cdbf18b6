pub mod Tokens
pub mod Grammar
pub mod Config
pub mod Sources
pub mod Outcomes
pub mod Reads
pub mod Drafts
