pub mod Fetch
pub mod Sequence
