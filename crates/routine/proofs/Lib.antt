pub mod Form
pub mod Accepted
pub mod Actions
pub mod WellFormed
pub mod Rows
pub mod Faults
