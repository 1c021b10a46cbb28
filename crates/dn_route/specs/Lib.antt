pub mod SessionState
pub mod CallersOrder
