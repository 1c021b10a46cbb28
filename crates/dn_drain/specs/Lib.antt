pub mod Alone
pub mod Ends
pub mod Left
pub mod Leaves
pub mod Acted
pub mod Drained
pub mod Stepped
pub mod All
