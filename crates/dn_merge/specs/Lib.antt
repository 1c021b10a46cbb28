pub mod Merge
pub mod Left
pub mod Words
pub mod Sequence
