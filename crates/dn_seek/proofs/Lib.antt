pub mod Spelled
pub mod Values
pub mod Fetches
pub mod Contents
pub mod Lasting
pub mod Logs
pub mod Seeks
pub mod Loads
