pub mod CoverLemmas
pub mod EntryLaws
pub mod FilterLemmas
pub mod ListLemmas
