pub mod Checks
pub mod Faults
pub mod Refusals
pub mod Replies
