pub mod Each
pub mod FirstFault
pub mod Gathered
pub mod LabelLemmas
