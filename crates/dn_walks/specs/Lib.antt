pub mod Trails
pub mod Finding
pub mod IndexStep
pub mod Changing
pub mod Alone
pub mod Gives
