pub mod Accesses
pub mod CoreTargets
pub mod Cores
pub mod Flashes
pub mod FourRegisters
pub mod LoggedCores
