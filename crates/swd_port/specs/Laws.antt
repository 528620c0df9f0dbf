-- The laws of the port model, each as one statement that follows from its definitions. The functions of `laws` state
-- them, one function a module.
pub mod Phases
pub mod Registers
pub mod Answers
pub mod Completion
pub mod Calls
pub mod Transfers
pub mod Requests
pub mod DataPhases
pub mod WordsRead
pub mod LineResets
pub mod Accesses
pub mod Buses
pub mod NeverStuck
pub mod Sessions
