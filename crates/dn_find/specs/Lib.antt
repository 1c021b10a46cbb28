pub mod Find
pub mod Fit
pub mod Sequence
pub mod Causes
