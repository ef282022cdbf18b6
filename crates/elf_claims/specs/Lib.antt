pub mod Claims
pub mod DebugClaims
pub mod DebugSections
pub mod KnownSymbols
pub mod Loads
pub mod SymbolClaims
