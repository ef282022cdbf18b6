pub mod Adding
pub mod Counted
pub mod Files
pub mod Order
pub mod Sizes
pub mod Totals
pub mod Walk
