pub mod Plans
pub mod Aims
pub mod Calls
pub mod Runs
pub mod Sessions
