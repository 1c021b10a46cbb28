pub mod Calls
pub mod Receipt
pub mod CallersOrder
pub mod Replay
