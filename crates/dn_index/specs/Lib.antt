pub mod Walk
pub mod Footprint
pub mod Sequence
