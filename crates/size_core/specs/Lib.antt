pub mod Checks
pub mod FaultNames
pub mod Gather
pub mod LabelHash
pub mod Labels
pub mod SourceNames
