pub mod Claims
pub mod DebugClaims
pub mod DebugSections
pub mod Loads
pub mod SymbolClaims
