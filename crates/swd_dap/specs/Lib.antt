pub mod Transfers
pub mod Sequences
pub mod Packets
pub mod Opening
pub mod Leading
pub mod Nexts
pub mod Doubts
pub mod Calls
