pub mod MarkLemmas
pub mod StripLemmas
pub mod KeptLemmas
pub mod RowLemmas
pub mod FieldLemmas
