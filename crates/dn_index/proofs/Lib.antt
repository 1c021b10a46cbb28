pub mod SequenceLaws
pub mod PurposeLaws
