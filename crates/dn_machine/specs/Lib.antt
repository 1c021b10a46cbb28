pub mod State
pub mod Events
pub mod Given
pub mod Sound
pub mod Kept
pub mod Histories
pub mod Runs
pub mod Growing
