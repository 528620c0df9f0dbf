mod PieceLemmas
pub mod ImageLemmas
pub mod SimulatedLemmas
