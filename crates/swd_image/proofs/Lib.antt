pub mod ListLemmas
pub mod ChainLemmas
pub mod CallLemmas
pub mod ImageLemmas
pub mod LoadLemmas
pub mod DumpLemmas
pub mod ReportLemmas
