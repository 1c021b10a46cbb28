pub mod Plan
pub mod Fit
pub mod Rank
pub mod Causes
pub mod Program
pub mod Sequence
