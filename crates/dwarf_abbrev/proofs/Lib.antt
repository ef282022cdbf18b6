pub mod Every
pub mod Forward
pub mod Listings
pub mod NoBytes
pub mod Records
pub mod Specs
pub mod Tables
pub mod Within
