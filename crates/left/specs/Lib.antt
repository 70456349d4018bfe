pub mod Cells
pub mod Counted
