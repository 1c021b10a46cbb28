pub mod Sealed
pub mod Wanted
pub mod Values
pub mod Fetching
pub mod Located
pub mod Seeking
pub mod Loading
