pub mod DebugLemmas
pub mod SegmentLemmas
