pub mod Knows
pub mod Sums
pub mod Claims
pub mod Steps
