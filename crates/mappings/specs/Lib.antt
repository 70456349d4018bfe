pub mod Along
pub mod Computed
pub mod Convert
pub mod Converted
pub mod Demand
pub mod Rules
pub mod Tables
pub mod Theorem
