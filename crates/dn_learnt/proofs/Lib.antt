pub mod Looks
pub mod Lasts
pub mod Asks
pub mod Lessons
