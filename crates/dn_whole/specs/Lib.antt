pub mod Close
pub mod Whole
