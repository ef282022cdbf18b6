pub mod Children
pub mod Counts
pub mod Cuts
pub mod Firsts
pub mod Labelling
pub mod Memory
pub mod Paths
pub mod Places
