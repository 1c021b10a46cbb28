pub mod Queues
pub mod Room
pub mod State
pub mod Attempts
pub mod Turns
pub mod Stops
pub mod Sound
