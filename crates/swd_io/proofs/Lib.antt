pub mod BlockLemmas
pub mod PieceLemmas
