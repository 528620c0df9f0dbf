pub mod WatchLemmas
pub mod JunkLemmas
pub mod SaidLemmas
pub mod CaptureLemmas
