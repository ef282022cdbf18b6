pub mod Instructions
pub mod Laws
pub mod Machine
pub mod Paths
pub mod Rows
