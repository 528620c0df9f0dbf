pub mod KindLemmas
pub mod PlaceLemmas
pub mod TableLemmas
pub mod TextLemmas
pub mod TellerLemmas
pub mod AccessLemmas
pub mod TraceLemmas
pub mod HeldLemmas
