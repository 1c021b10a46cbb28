pub mod Going
pub mod Heads
pub mod Asked
pub mod Plain
pub mod Balance
pub mod Hearing
pub mod Knowledge
