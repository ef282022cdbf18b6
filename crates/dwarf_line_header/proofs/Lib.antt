pub mod FormattedLemmas
pub mod GatheredLemmas
pub mod KeptLemmas
pub mod PlainLaws
pub mod PlainLemmas
pub mod TableLemmas
