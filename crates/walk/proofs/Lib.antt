pub mod Bytes
pub mod Held
pub mod Sorts
pub mod Walking
