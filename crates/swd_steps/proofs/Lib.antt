mod Lists
mod Standing
mod Keeping
mod Running
mod Reporting
mod Reaching
mod Ending
mod Stepping
mod Failing
mod StandIns
pub mod Planning
