pub mod TransferLemmas
pub mod BeginningLemmas
pub mod LeadLemmas
pub mod CallLemmas
