pub mod Explanation
pub mod Laws
pub mod Naming
pub mod Numbers
pub mod Places
pub mod Spots
