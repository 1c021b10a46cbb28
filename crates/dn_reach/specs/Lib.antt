pub mod Directory
pub mod OwnLog
pub mod Staging
pub mod Placing
pub mod Exchange
pub mod Sealing
pub mod Steps
