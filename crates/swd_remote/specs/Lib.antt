pub mod Packets
pub mod Ways
pub mod Remotes
pub mod Runs
pub mod Probes
pub mod Openings
pub mod Kept
pub mod WholeRuns
