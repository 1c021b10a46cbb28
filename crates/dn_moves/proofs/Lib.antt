pub mod Pools
pub mod Monitors
pub mod Actors
pub mod Steps
pub mod Events
pub mod Grants
pub mod Orders
pub mod Owners
