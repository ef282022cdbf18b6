pub mod Merging
pub mod Paths
pub mod Trees
pub mod Unions
pub mod Words
