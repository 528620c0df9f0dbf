mod LimitLemmas
pub mod RecordLemmas
mod ServedLemmas
