pub mod Shifts
pub mod Frames
pub mod Calls
mod Spelling
pub mod Marks
pub mod Whole
pub mod Contends
pub mod FieldsLemmas
pub mod ElsewhereLemmas
pub mod GivingUp
