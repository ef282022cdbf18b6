pub mod Parts
pub mod Paths
pub mod Rows
pub mod Sums
pub mod Tree
pub mod TreeFalls
pub mod Words
