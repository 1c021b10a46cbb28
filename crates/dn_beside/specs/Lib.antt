pub mod Pool
pub mod Grown
pub mod Chains
pub mod Lanes
pub mod Mergers
pub mod Orders
pub mod Step
