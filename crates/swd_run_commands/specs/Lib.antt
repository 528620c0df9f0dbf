pub mod Cores
pub mod Infos
pub mod MemoryTargets
pub mod Remotes
pub mod Runs
pub mod Targets
