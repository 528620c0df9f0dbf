pub mod Alphabet
pub mod Clocks
pub mod Going
