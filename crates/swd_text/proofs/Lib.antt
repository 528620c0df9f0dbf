pub mod SinkLemmas
pub mod ListerLemmas
pub mod OutputLemmas
pub mod DigitLemmas
pub mod CommentLemmas
pub mod PieceLemmas
mod TxLineLemmas
