pub mod WayLemmas
pub mod LevelLemmas
pub mod RunLemmas
pub mod KeptLemmas
pub mod WholeLemmas
pub mod OpeningLemmas
