pub mod Entries
pub mod Filter
pub mod Queue
pub mod Segments
pub mod Table
