pub mod Actions
pub mod Identities
pub mod Steps
pub mod Troubles
