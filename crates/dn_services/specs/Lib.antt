pub mod Spelled
pub mod Staged
pub mod Room
pub mod Sealing
pub mod Sequence
