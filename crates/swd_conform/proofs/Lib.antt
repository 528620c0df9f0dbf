pub mod SessionLemmas
pub mod RunLemmas
pub mod AimLemmas
