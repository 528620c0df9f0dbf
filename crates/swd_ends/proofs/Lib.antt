pub mod AccessLemmas
pub mod ClockLemmas
pub mod RemoteLemmas
pub mod LogLemmas
pub mod LogGrowth
pub mod LiveLemmas
