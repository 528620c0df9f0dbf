pub mod Pieces
pub mod Images
pub mod Reports
pub mod Simulated
pub mod Targeted
