pub mod Named
pub mod Returns
