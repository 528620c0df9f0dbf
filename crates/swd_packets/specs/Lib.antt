pub mod Packets
pub mod Reaches
