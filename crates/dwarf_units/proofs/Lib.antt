pub mod KnownUnits
pub mod RootLemmas
pub mod SameRoots
pub mod UnitLemmas
