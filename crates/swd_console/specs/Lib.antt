pub mod Connections
pub mod LineFiles
pub mod MemoryFiles
pub mod Roles
pub mod Statuses
pub mod Streams
pub mod Verdicts
