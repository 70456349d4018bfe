pub mod Passes
pub mod Paths
pub mod Places
