pub mod Filling
pub mod Laws
pub mod Roots
pub mod Strings
pub mod Units
