pub mod InMemory
pub mod Rose
pub mod Status
pub mod Whole
