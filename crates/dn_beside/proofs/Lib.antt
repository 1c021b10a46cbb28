pub mod Apart
pub mod Still
pub mod Chained
pub mod Low
pub mod Deeds
