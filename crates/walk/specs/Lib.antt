pub mod Report
pub mod Walks
