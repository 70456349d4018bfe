pub mod Cells
pub mod Counted
pub mod Order
pub mod Paths
pub mod Solver
