pub mod Values
pub mod Head
pub mod Record
pub mod Grammar
pub mod Reading
pub mod Laws
