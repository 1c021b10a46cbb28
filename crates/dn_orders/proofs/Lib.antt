pub mod Words
pub mod Gates
pub mod Lasting
pub mod Takeovers
pub mod Places
pub mod Actions
pub mod Steps
