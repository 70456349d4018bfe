pub mod Actions
pub mod Arrays
pub mod Edges
pub mod Faults
pub mod Layout
pub mod Reader
pub mod Rows
