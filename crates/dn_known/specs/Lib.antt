pub mod State
pub mod Learnt
pub mod Counting
pub mod Sealed
