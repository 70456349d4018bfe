pub mod Cells
pub mod Digits
