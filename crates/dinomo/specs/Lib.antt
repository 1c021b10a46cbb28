pub mod Command
pub mod Ending
pub mod Plays
pub mod Pool
pub mod Verdict
