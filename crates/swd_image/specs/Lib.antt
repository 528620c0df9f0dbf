pub mod Bytes
pub mod Images
pub mod Lists
pub mod Sessions
pub mod Reports
pub mod Loads
pub mod Dumps
