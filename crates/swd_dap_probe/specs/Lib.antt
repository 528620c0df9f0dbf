pub mod Commands
pub mod Moves
pub mod Packets
pub mod Plain
pub mod Sequences
pub mod Shapes
pub mod Transactions
pub mod Transfers
