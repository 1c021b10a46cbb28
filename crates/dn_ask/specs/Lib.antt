pub mod Ask
pub mod Fit
pub mod Rank
pub mod Causes
