pub mod Cells
pub mod Counted
pub mod Exact
pub mod Members
pub mod Paths
pub mod Rounds
pub mod Rows
