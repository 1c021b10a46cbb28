pub mod State
pub mod Inside
pub mod Machine
pub mod Acting
pub mod Changed
pub mod Asks
pub mod Does
