pub mod WordLemmas
pub mod LineLemmas
pub mod ScanLemmas
pub mod ReadLemmas
pub mod ScriptLemmas
pub mod WorkedTexts
pub mod TextLaws
