pub mod Calls
pub mod Phases
pub mod Lane
pub mod Stepped
pub mod Unmade
pub mod Begun
