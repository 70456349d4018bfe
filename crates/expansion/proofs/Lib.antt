pub mod Expansion
pub mod Ways
