pub mod StagedLemmas
pub mod SequenceLaws
pub mod ApartLaws
