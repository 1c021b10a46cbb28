pub mod Ring
pub mod Counted
