pub mod Accesses
pub mod Places
pub mod Gaps
pub mod Names
pub mod Flags
pub mod Tables
pub mod Printing
pub mod Tellers
