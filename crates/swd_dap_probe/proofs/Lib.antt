pub mod ClockLemmas
pub mod ItemLemmas
pub mod MotionLemmas
pub mod ReplyLemmas
pub mod SequenceLemmas
pub mod StepLemmas
pub mod TransactionLemmas
