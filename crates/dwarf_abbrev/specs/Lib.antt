pub mod Declarations
pub mod Forms
pub mod Laws
pub mod Lengths
pub mod Listing
pub mod Reads
pub mod Shapes
pub mod Values
