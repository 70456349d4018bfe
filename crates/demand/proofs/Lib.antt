pub mod Along
pub mod Caller
pub mod Demand
pub mod Invariant
pub mod Labels
pub mod Machine
pub mod Sound
