pub mod ClockedProbes
pub mod AccessRuns
pub mod LiveFiles
pub mod OneLine
pub mod RemoteRuns
pub mod Serving
pub mod TargetLogs
