pub mod Log
pub mod Claim
pub mod Staged
