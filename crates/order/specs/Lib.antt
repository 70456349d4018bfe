pub mod Falling
pub mod Places
