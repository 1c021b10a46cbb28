pub mod Tally
pub mod At
