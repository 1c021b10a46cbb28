pub mod Heirs
pub mod Grant
pub mod Monitor
pub mod Causes
pub mod Words
pub mod Sequence
