pub mod Directives
pub mod Fields
pub mod Layout
pub mod Read
