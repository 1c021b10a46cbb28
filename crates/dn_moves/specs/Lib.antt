pub mod Unmerged
pub mod Grants
pub mod Stamps
pub mod Changes
pub mod Orders
