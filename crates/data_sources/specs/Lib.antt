pub mod Answers
pub mod Groups
pub mod Kind
pub mod Lists
pub mod Loads
pub mod Opened
pub mod Sources
pub mod Views
