pub mod Edges
pub mod Passing
pub mod Rounds
