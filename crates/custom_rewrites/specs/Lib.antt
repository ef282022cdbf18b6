pub mod Pattern
pub mod Expand
pub mod Refusals
pub mod Rewriting
pub mod Shown
