pub mod Cases
pub mod Fields
pub mod Limits
pub mod Parts
pub mod Places
