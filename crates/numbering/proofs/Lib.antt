pub mod Columns
pub mod Growth
pub mod Holding
