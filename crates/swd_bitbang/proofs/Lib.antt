pub mod SessionLemmas
pub mod LineLemmas
pub mod ClockLemmas
