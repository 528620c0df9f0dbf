pub mod Readings
pub mod Captures
pub mod Sources
pub mod PartSinks
pub mod Printers
