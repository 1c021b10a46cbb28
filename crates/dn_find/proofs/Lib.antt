pub mod FindLaws
pub mod SequenceLaws
