pub mod Knowing
pub mod Changing
pub mod Step
