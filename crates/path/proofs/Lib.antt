pub mod Counted
pub mod Passes
pub mod Paths
pub mod Places
pub mod Rising
