pub mod BodyLemmas
pub mod FunctionLemmas
pub mod LawLemmas
pub mod ModuleLemmas
pub mod NameLemmas
pub mod RecordLemmas
pub mod RoomLemmas
pub mod SectionLemmas
