pub mod Fields
pub mod Marks
pub mod Strips
pub mod Rows
pub mod Drawings
pub mod Collecting
pub mod Draws
