pub mod Sorting
pub mod Histories
pub mod Moments
pub mod Closing
pub mod Unheard
pub mod Opening
pub mod Determined
