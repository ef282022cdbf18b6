pub mod Index
pub mod Names
pub mod Shown
pub mod Spans
pub mod Symbols
pub mod Taken
