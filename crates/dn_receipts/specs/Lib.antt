pub mod Sealing
pub mod Joined
pub mod Receipts
pub mod SoFar
pub mod Fresh
