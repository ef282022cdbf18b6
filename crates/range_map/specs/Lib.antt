pub mod Emit
pub mod Ranges
pub mod Starts
pub mod Sweep
