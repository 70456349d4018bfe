pub mod Carrying
pub mod Exit
pub mod Fits
pub mod Labels
pub mod States
