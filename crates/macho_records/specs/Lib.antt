pub mod Header
pub mod Kinds
pub mod Layout
pub mod LinkEdit
