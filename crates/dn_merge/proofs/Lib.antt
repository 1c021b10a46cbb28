pub mod SequenceLaws
pub mod TurnLaws
pub mod WordLaws
