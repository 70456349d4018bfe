pub mod Demand
pub mod Machine
pub mod Run
