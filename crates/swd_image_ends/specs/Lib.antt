pub mod Files
pub mod Gathered
pub mod Pieces
pub mod Memories
pub mod PieceReports
pub mod Came
pub mod Laws
