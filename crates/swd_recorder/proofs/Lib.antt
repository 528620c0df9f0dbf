pub mod ChainLemmas
pub mod AddLemmas
pub mod AckLemmas
pub mod JoinLemmas
pub mod StepLemmas
