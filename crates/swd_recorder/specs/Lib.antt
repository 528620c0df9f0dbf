pub mod Chains
pub mod Items
pub mod Calls
pub mod Kept
pub mod Steps
pub mod Recorders
