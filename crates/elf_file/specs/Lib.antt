pub mod ElfChecks
pub mod Known
pub mod Layout
pub mod Names
pub mod Shown
pub mod Tables
pub mod WellFormed
