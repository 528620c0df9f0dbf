pub mod WireLemmas
pub mod PieceLemmas
pub mod PieceReportLemmas
pub mod CameLemmas
pub mod ApartLemmas
pub mod MemoryLemmas
pub mod AddressLemmas
