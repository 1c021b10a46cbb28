pub mod SequenceLaws
pub mod CauseLaws
