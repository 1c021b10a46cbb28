pub mod Lists
pub mod Keeping
pub mod Learning
pub mod Telling
pub mod Answering
