mod Checks
mod Cues
mod Gives
mod Plans
pub mod Items
mod Refusals
pub mod Targets
