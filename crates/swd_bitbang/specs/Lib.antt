pub mod Traces
pub mod Steps
pub mod Protocols
pub mod Sessions
pub mod Serving
pub mod Watching
pub mod Lines
