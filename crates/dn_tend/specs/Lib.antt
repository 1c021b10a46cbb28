pub mod Tend
pub mod Fit
pub mod Rank
pub mod Causes
pub mod Plan
pub mod Program
pub mod Sequence
