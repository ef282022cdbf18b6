pub mod Names
pub mod Numbers
pub mod Shown
pub mod Symbols
pub mod TableFacts
