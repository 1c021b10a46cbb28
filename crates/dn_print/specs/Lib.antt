pub mod CallLine
pub mod Front
pub mod HistoryLine
pub mod OrderLine
pub mod Piece
pub mod RefusalLine
pub mod SummaryLine
