pub mod Opened
pub mod Joining
pub mod Spelled
pub mod Histories
pub mod Plain
