pub mod Runs
pub mod Laws
pub mod Fields
pub mod Reached
pub mod Failing
pub mod StandIns
pub mod Plans
