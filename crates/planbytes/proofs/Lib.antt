pub mod Cells
pub mod Sizes
