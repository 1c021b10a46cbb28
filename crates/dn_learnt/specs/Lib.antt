pub mod Learning
pub mod Heeding
pub mod Pendings
