pub mod LoggedLemmas
