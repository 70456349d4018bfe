pub mod Buffers
pub mod Filling
pub mod Lists
pub mod Replaced
pub mod Sums
pub mod Tables
pub mod Tests
pub mod Written
