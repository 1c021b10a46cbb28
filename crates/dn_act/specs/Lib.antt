pub mod Words
pub mod Access
pub mod Action
pub mod Calls
